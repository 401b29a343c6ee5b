-- The data of an entry: data segments, or one inline segment.
use Rattle.std.specs.Prelude.{◌≡◌, ℕ, suc, ◌+◌, ◌-◌, ◌*◌, ◌/◌, ◌^◌, ◌<◌, ◌≤◌, ◌==◌, Bool, IsTrue, List, [], ◌∷◌, length, drop}
use Rattle.std.specs.List.{AllByRecursion}
use Rattle.prm_fields.specs.declared.layout.LayoutName.TheVariants.{DataUnit, Inline as InlineLayout}
use Rattle.prm_fields.specs.declared.layout.FieldName.{FieldName}
use Rattle.prm_fields.specs.declared.layout.FieldName.TheVariants.{ByteCount, Lkey, Addr, Inline as InlineField}
use Rattle.prm_fields.specs.Bits.{field_value}
use Rattle.prm_fields.specs.Spelling.{Spells}
use Rattle.verbs_types.specs.declared.request.Sge.{Sge}
use Rattle.work_entries.specs.declared.opcode.Opcode.{Opcode}
use Rattle.work_entries.specs.declared.sent.SentBody.{SentBody}
use Rattle.work_entries.specs.declared.sent.SentBody.TheVariants.{Sges, Inline}
use Rattle.work_entries.specs.Filled.{filled}
use Rattle.work_entries.specs.Opcode.{most_data, may_inline}
use Rattle.work_entries.specs.Unit.{unit, units}

abbrev pub segment_values : Sge → FieldName → ℕ
segment_values sge ByteCount = sge.len
segment_values sge Lkey = sge.key
segment_values sge Addr = sge.addr
segment_values sge _ = 0

-- segments from unit k on, one a unit
abbrev pub HasSegments : List Sge → List ℕ → ℕ → Type 0
HasSegments [] words k = Unit {0}
HasSegments (sge ∷ sges) words k = Spells DataUnit (segment_values sge) (unit words k) × HasSegments sges words (suc k)

-- the head of an inline segment: the top bit, and the number of bytes
abbrev pub inline_values : ℕ → FieldName → ℕ
inline_values count InlineField = 1
inline_values count ByteCount = count
inline_values count _ = 0

-- the units of an inline segment: four bytes of head, and the bytes
abbrev pub inline_units : ℕ → ℕ
inline_units count = (4 + count + 15) / 16

-- an inline segment from unit k on: behind the head are the bytes, and then 0 up to the end of a unit
pub record HasInline (bytes words : List ℕ) (k : ℕ) : Type 0 where
  pub head : Spells InlineLayout (inline_values (length bytes)) (unit words k)
  pub rest : drop 4 (units words k (inline_units (length bytes))) ≡ filled (16 * inline_units (length bytes) - 4) 0 bytes

-- the data from unit k on
abbrev pub HasBody : SentBody → List ℕ → ℕ → Type 0
HasBody (Sges sges) words k = HasSegments sges words k
HasBody (Inline bytes) words k = HasInline bytes words k

-- how many units the data takes
abbrev pub body_units : SentBody → ℕ
body_units (Sges sges) = length sges
body_units (Inline bytes) = inline_units (length bytes)

-- a segment's length leaves the top bit of its unit 0, which would begin an inline segment
abbrev pub IsShort : Sge → Type 0
IsShort sge = sge.len < 2 ^ 31

-- the data that an entry of an opcode can carry
abbrev pub MayCarry : Opcode → SentBody → Type 0
MayCarry opcode (Sges sges) = (length sges ≤ most_data opcode) × AllByRecursion IsShort sges
MayCarry opcode (Inline bytes) = IsTrue (may_inline opcode) × (length bytes ≤ 60)

-- whether a unit begins an inline segment
abbrev pub begins_inline : List ℕ → Bool
begins_inline unit = field_value unit 0 1 == 1

-- how many bytes the head of an inline segment names
abbrev pub inline_count : List ℕ → ℕ
inline_count unit = field_value unit 1 31
