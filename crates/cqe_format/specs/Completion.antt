-- Completions as bytes.
use Rattle.std.specs.Prelude.{◌≡◌, ℕ, ◌<◌, ◌^◌, Bool, false, cond, if◌then◌else◌, IsTrue, is_some, List}
use Rattle.prm_fields.specs.Bits.{field_value}
use Rattle.prm_fields.specs.Spelling.{IsBytesOf, Spells}
use Rattle.prm_fields.specs.declared.layout.LayoutName.{LayoutName}
use Rattle.prm_fields.specs.declared.layout.LayoutName.TheVariants.{Cqe as CqeLayout, CqeErr}
use Rattle.prm_fields.specs.declared.layout.FieldName.{FieldName}
use Rattle.prm_fields.specs.declared.layout.FieldName.TheVariants.{SrqnUidx, ImmInvalPkey, ByteCnt, Sop, Qpn, WqeCounter, Syndrome, Opcode, Format, Solicited, Owner}
use Rattle.cqe_format.specs.declared.completion.Cqe.{Cqe}
use Rattle.cqe_format.specs.Opcode.{is_request, is_receive, is_error, is_known, has_srqn, has_imm, has_len, has_qpn, is_send_opcode}
use Rattle.cqe_format.specs.Syndrome.{syndrome_of}

-- a number that is 0 where there is none
abbrev pub OnlyWhere : Bool → ℕ → Type 0
OnlyWhere has number = has ≡ false → number ≡ 0

-- What a completion may hold. What its opcode has none of is 0.
pub record IsCompletion (c : Cqe) : Type 0 where
  pub opcode : IsTrue (is_known c.opcode)
  pub format : c.format ≡ 0
  pub sop : OnlyWhere (is_request c.opcode) c.sop
  pub sop_known : IsTrue (is_send_opcode c.sop)
  pub qpn : OnlyWhere (has_qpn c.opcode) c.qpn
  pub qpn_bits : c.qpn < 2 ^ 24
  pub counter : OnlyWhere (has_qpn c.opcode) c.counter
  pub srqn : OnlyWhere (has_srqn c.opcode) c.srqn
  pub imm : OnlyWhere (has_imm c.opcode) c.imm
  pub len : OnlyWhere (has_len c.opcode) c.len
  pub syndrome : OnlyWhere (is_error c.opcode) c.syndrome
  pub syndrome_known : is_some (syndrome_of c.syndrome) ≡ is_error c.opcode
  -- a receive may be solicited or not; of the others exactly the errors are
  pub solicited : is_receive c.opcode ≡ false → c.solicited ≡ is_error c.opcode

-- the layout of the completions of an opcode
abbrev pub layout_of : ℕ → LayoutName
layout_of opcode = if is_error opcode then CqeErr else CqeLayout

-- what each field of its layout holds, with this owner bit
abbrev pub cqe_field : Cqe → ℕ → FieldName → ℕ
cqe_field c owner SrqnUidx = c.srqn
cqe_field c owner ImmInvalPkey = c.imm
cqe_field c owner ByteCnt = c.len
cqe_field c owner Sop = c.sop
cqe_field c owner Qpn = c.qpn
cqe_field c owner WqeCounter = c.counter
cqe_field c owner Syndrome = c.syndrome
cqe_field c owner Opcode = c.opcode
cqe_field c owner Format = c.format
cqe_field c owner Solicited = cond c.solicited 1 0
cqe_field c owner Owner = owner
cqe_field c owner _ = 0

-- the 64 bytes spell the completion, with either owner bit
pub record IsCqe (c : Cqe) (bytes : List ℕ) : Type 0 where
  pub value : IsCompletion c
  pub bytes_of : IsBytesOf (layout_of c.opcode) bytes
  pub fields : Spells (layout_of c.opcode) (cqe_field c (field_value bytes 511 1)) bytes

-- the bytes spell some completion
abbrev pub IsSomeCqe : List ℕ → Type 0
IsSomeCqe bytes = (c : Cqe) × IsCqe c bytes
