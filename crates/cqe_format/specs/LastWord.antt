-- The last word of an entry, which tells who owns it.
use Rattle.std.specs.Prelude.{ℕ, ◌≡◌, ◌/◌, ◌%◌, List, length, slice_index}
use Rattle.prm_fields.specs.Bits.{field_value}
use Rattle.cqe_format.specs.Bytes.{entry_bytes}

-- the owner bit
abbrev pub owner_in : ℕ → ℕ
owner_in last = last % 2

-- the opcode, in a completion
abbrev pub opcode_in : ℕ → ℕ
opcode_in last = last / 16 % 16

-- in every eight words that end so, the field of this place holds this value
abbrev pub IsFieldOfLast : ℕ → ℕ → ℕ → ℕ → Type 0
IsFieldOfLast last first width value = (words : List ℕ) → length words ≡ 8 → slice_index words 7 ≡ last → field_value (entry_bytes words) first width ≡ value
