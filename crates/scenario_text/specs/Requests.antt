-- The texts of requests and receives, field by field.
use Rattle.std.specs.Prelude.{ℕ, zero, suc, ◌+◌, ◌/◌, ◌%◌, Bool, true, false, nat_lt, if◌then◌else◌, List, [], ◌∷◌, ◌++◌, map, codes, decimal}
use Rattle.std.specs.List.{flat_map, join_with_byte}
use Rattle.verbs_types.specs.declared.request.Sge.{Sge}
use Rattle.verbs_types.specs.declared.request.Body.{Body}
use Rattle.verbs_types.specs.declared.request.Body.TheVariants.{Sges, Inline}
use Rattle.verbs_types.specs.declared.request.Op.{Op}
use Rattle.verbs_types.specs.declared.request.Op.TheVariants.{Nop, Send, SendImm, Write, WriteImm, Read, Cas, Faa}
use Rattle.verbs_types.specs.declared.request.Request.{Request}
use Rattle.verbs_types.specs.declared.request.Receive.{Receive}
use Rattle.verbs_types.specs.declared.request.Item.{Item}
use Rattle.verbs_types.specs.declared.request.Item.TheVariants.{Request as TheRequest, Receive as TheReceive}

-- a line of these fields
abbrev pub line : List (List ℕ) → List ℕ
line fields = join_with_byte 32 fields ++ 10 ∷ []

abbrev pub hex_digit : ℕ → ℕ
hex_digit d = if nat_lt d 10 then 48 + d else 87 + d

-- the last hexadecimal digits of a number, as many as the first argument says
unfoldable pub hex : ℕ → ℕ → List ℕ
hex zero n = []
hex (suc k) n = hex k (n / 16) ++ hex_digit (n % 16) ∷ []

abbrev pub key_text : ℕ → List ℕ
key_text key = 35 ∷ hex 8 key

abbrev pub sge_text : Sge → List ℕ
sge_text s = key_text s.key ++ 58 ∷ decimal s.addr ++ 58 ∷ decimal s.len

abbrev pub op_name : Op → List ℕ
op_name Nop = codes "nop"
op_name Send = codes "send"
op_name (SendImm imm) = codes "sendimm"
op_name (Write raddr rkey) = codes "write"
op_name (WriteImm raddr rkey imm) = codes "writeimm"
op_name (Read raddr rkey) = codes "read"
op_name (Cas raddr rkey compare swap) = codes "cas"
op_name (Faa raddr rkey add) = codes "faa"

abbrev pub op_arguments : Op → List (List ℕ)
op_arguments Nop = []
op_arguments Send = []
op_arguments (SendImm imm) = decimal imm ∷ []
op_arguments (Write raddr rkey) = decimal raddr ∷ key_text rkey ∷ []
op_arguments (WriteImm raddr rkey imm) = decimal raddr ∷ key_text rkey ∷ decimal imm ∷ []
op_arguments (Read raddr rkey) = decimal raddr ∷ key_text rkey ∷ []
op_arguments (Cas raddr rkey compare swap) = decimal raddr ∷ key_text rkey ∷ decimal compare ∷ decimal swap ∷ []
op_arguments (Faa raddr rkey add) = decimal raddr ∷ key_text rkey ∷ decimal add ∷ []

abbrev pub letter : Bool → ℕ → List ℕ
letter true c = c ∷ []
letter false c = []

abbrev pub or_dash : List ℕ → List ℕ
or_dash [] = 45 ∷ []
or_dash (c ∷ cs) = c ∷ cs

-- `c` completion wanted, `s` solicited, `f` fence
abbrev pub flags_text : Request → List ℕ
flags_text r = or_dash (letter r.wanted 99 ++ letter r.solicited 115 ++ letter r.fence 102)

abbrev pub body_fields : Body → List (List ℕ)
body_fields (Sges sges) = map sge_text sges
body_fields (Inline bytes) = (61 ∷ flat_map (hex 2) bytes) ∷ []

abbrev pub request_fields : Request → List (List ℕ)
request_fields r = codes "+" ∷ decimal r.id ∷ op_name r.op ∷ flags_text r ∷ op_arguments r.op ++ body_fields r.body

abbrev pub receive_fields : Receive → List (List ℕ)
receive_fields r = codes "+" ∷ decimal r.id ∷ map sge_text r.sges

abbrev pub item_fields : Item → List (List ℕ)
item_fields (TheRequest r) = request_fields r
item_fields (TheReceive r) = receive_fields r
