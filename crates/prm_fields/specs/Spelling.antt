-- Byte strings that spell the fields of a layout.
use Rattle.std.specs.Prelude.{◌≡◌, ℕ, ◌<◌, cond, List, length, slice_index}
use Rattle.std.specs.List.{AllByRecursion}
use Rattle.prm_fields.specs.declared.layout.LayoutName.{LayoutName}
use Rattle.prm_fields.specs.declared.layout.FieldName.{FieldName}
use Rattle.prm_fields.specs.declared.layout.FieldRow.{FieldRow}
use Rattle.prm_fields.specs.Bits.{field_value}
use Rattle.prm_fields.specs.Layout.{rows, layout_length, is_reserved}

-- a byte string of a layout's length
pub record IsBytesOf (layout : LayoutName) (bytes : List ℕ) : Type 0 where
  pub long : length bytes ≡ layout_length layout
  pub small : (k : ℕ) → slice_index bytes k < 256

-- what a row holds: the value that goes with its name, or 0 where it is reserved
abbrev pub value_in : (FieldName → ℕ) → FieldRow → ℕ
value_in values r = cond (is_reserved r) 0 (values r.name)

-- each row of a layout holds its value
abbrev pub Spells : LayoutName → (FieldName → ℕ) → List ℕ → Type 0
Spells layout values bytes = AllByRecursion (λ r. field_value bytes r.bit r.width ≡ value_in values r) (rows layout)

-- no two byte strings of a layout spell the same values
abbrev pub OneSpelling : Type 0
OneSpelling =
    (layout : LayoutName) (values : FieldName → ℕ) (a b : List ℕ)
    → IsBytesOf layout a → IsBytesOf layout b → Spells layout values a → Spells layout values b → a ≡ b
