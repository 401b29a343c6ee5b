-- The segments of an operation, and its immediate.
use Rattle.std.specs.Prelude.{ℕ, List}
use Rattle.prm_fields.specs.declared.layout.LayoutName.TheVariants.{Raddr, Atomic}
use Rattle.prm_fields.specs.declared.layout.FieldName.{FieldName}
use Rattle.prm_fields.specs.declared.layout.FieldName.TheVariants.{Addr, Rkey, SwapOrAdd, Compare}
use Rattle.prm_fields.specs.Bits.{field_value}
use Rattle.prm_fields.specs.Spelling.{Spells}
use Rattle.verbs_types.specs.declared.request.Op.{Op}
use Rattle.verbs_types.specs.declared.request.Op.TheVariants.{Nop, Send, SendImm, Write, WriteImm, Read, Cas, Faa}
use Rattle.work_entries.specs.Unit.{unit}

abbrev pub remote_values : ℕ → ℕ → FieldName → ℕ
remote_values addr key Addr = addr
remote_values addr key Rkey = key
remote_values addr key _ = 0

abbrev pub operand_values : ℕ → ℕ → FieldName → ℕ
operand_values swap_or_add compare SwapOrAdd = swap_or_add
operand_values swap_or_add compare Compare = compare
operand_values swap_or_add compare _ = 0

-- unit 1 is the remote address
abbrev pub HasRemote : ℕ → ℕ → List ℕ → Type 0
HasRemote addr key words = Spells Raddr (remote_values addr key) (unit words 1)

-- unit 2 has the operands of an atomic
abbrev pub HasOperands : ℕ → ℕ → List ℕ → Type 0
HasOperands swap_or_add compare words = Spells Atomic (operand_values swap_or_add compare) (unit words 2)

-- the segments between the control segment and the data
abbrev pub HasOperation : Op → List ℕ → Type 0
HasOperation Nop words = Unit {0}
HasOperation Send words = Unit {0}
HasOperation (SendImm imm) words = Unit {0}
HasOperation (Write raddr rkey) words = HasRemote raddr rkey words
HasOperation (WriteImm raddr rkey imm) words = HasRemote raddr rkey words
HasOperation (Read raddr rkey) words = HasRemote raddr rkey words
HasOperation (Cas raddr rkey compare swap) words = HasRemote raddr rkey words × HasOperands swap compare words
HasOperation (Faa raddr rkey add) words = HasRemote raddr rkey words × HasOperands add 0 words

-- the immediate, or 0 where the operation has none
abbrev pub immediate_of : Op → ℕ
immediate_of (SendImm imm) = imm
immediate_of (WriteImm raddr rkey imm) = imm
immediate_of _ = 0

-- the second operand of an atomic
abbrev pub compare_at : List ℕ → ℕ
compare_at unit = field_value unit 64 64
