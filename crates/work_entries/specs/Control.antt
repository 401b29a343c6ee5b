-- The control segment of a send entry.
use Rattle.std.specs.Prelude.{ℕ, ◌+◌, Bool, if◌then◌else◌, List, Option}
use Rattle.prm_fields.specs.declared.layout.FieldName.{FieldName}
use Rattle.prm_fields.specs.declared.layout.FieldName.TheVariants.{Index, Opcode as OpcodeField, Qpn, Ds, Flags, Imm}
use Rattle.prm_fields.specs.Bits.{field_value}
use Rattle.work_entries.specs.declared.opcode.Opcode.{Opcode}
use Rattle.work_entries.specs.declared.control.Control.{Control}
use Rattle.work_entries.specs.Opcode.{opcode_number, opcode_from}

-- what each field holds; the opcode modifier and the signature are 0
abbrev pub control_values : Control → FieldName → ℕ
control_values c Index = c.index
control_values c OpcodeField = opcode_number c.opcode
control_values c Qpn = c.qpn
control_values c Ds = c.units
control_values c Flags = c.flags
control_values c Imm = c.imm
control_values c _ = 0

-- the flags of a request
abbrev pub flags_of : Bool → Bool → Bool → ℕ
flags_of wanted solicited fence = (if wanted then 0x08 else 0) + (if solicited then 0x02 else 0) + (if fence then 0x80 else 0)

-- the fields of a control segment that rules speak of

abbrev pub modifier_at : List ℕ → ℕ
modifier_at unit = field_value unit 0 8

abbrev pub opcode_at : List ℕ → Option Opcode
opcode_at unit = opcode_from (field_value unit 24 8)

abbrev pub units_at : List ℕ → ℕ
units_at unit = field_value unit 56 8

abbrev pub signature_at : List ℕ → ℕ
signature_at unit = field_value unit 64 8

abbrev pub flags_at : List ℕ → ℕ
flags_at unit = field_value unit 88 8

abbrev pub immediate_at : List ℕ → ℕ
immediate_at unit = field_value unit 96 32
