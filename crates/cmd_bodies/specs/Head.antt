-- The first 16 bytes of an input or an output.
use Rattle.std.specs.Prelude.{◌≡◌, ℕ, ◌+◌, ◌≤◌, List}
use Rattle.prm_fields.specs.Bits.{field_value}

-- the first 128 bits of both spell the same numbers; a byte that is not there is read as 0
abbrev pub SameHead : List ℕ → List ℕ → Type 0
SameHead head bytes = (first width : ℕ) → first + width ≤ 128 → field_value head first width ≡ field_value bytes first width
