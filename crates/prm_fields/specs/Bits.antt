-- A byte string as a row of bits, and the numbers that its bits spell.
use Rattle.std.specs.Prelude.{◌≡◌, ℕ, zero, suc, ◌+◌, ◌-◌, ◌*◌, ◌/◌, ◌%◌, ◌^◌, ◌<◌, ◌≤◌, List, slice_index}

-- bit k of a byte string, 0 or 1; bit 0 is the top bit of byte 0
abbrev pub bit_of : List ℕ → ℕ → ℕ
bit_of bytes k = slice_index bytes (k / 8) / 2 ^ (7 - k % 8) % 2

-- the number that `width` bits from bit `first` on spell, the first of them being the highest
unfoldable pub field_value : List ℕ → ℕ → ℕ → ℕ
field_value bytes first zero = 0
field_value bytes first (suc width) = 2 * field_value bytes first width + bit_of bytes (first + width)

-- no bit outside the `width` bits from `first` on has changed
pub record KeepsOtherBits (old new : List ℕ) (first width : ℕ) : Type 0 where
  pub before : (k : ℕ) → k < first → bit_of new k ≡ bit_of old k
  pub after : (k : ℕ) → first + width ≤ k → bit_of new k ≡ bit_of old k

-- no byte outside the `count` bytes from `first` on has changed
pub record KeepsOtherBytes (old new : List ℕ) (first count : ℕ) : Type 0 where
  pub before : (k : ℕ) → k < first → slice_index new k ≡ slice_index old k
  pub after : (k : ℕ) → first + count ≤ k → slice_index new k ≡ slice_index old k
