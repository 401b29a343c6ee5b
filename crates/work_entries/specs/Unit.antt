-- Units of 16 bytes, as two words each, and blocks of four units.
use Rattle.std.specs.Prelude.{◌≡◌, ℕ, zero, suc, ◌+◌, ◌*◌, ◌/◌, ◌<◌, ◌≤◌, ◌==◌, ◌&&◌, Bool, List, [], ◌++◌, slice_index}
use Rattle.std.specs.Int.{w64, to_be_bytes}

-- the eight bytes of a word, which is read big-endian
unfoldable pub word_bytes : ℕ → List ℕ
word_bytes word = to_be_bytes w64 word

-- the 16 bytes of unit k, those of two words
unfoldable pub unit : List ℕ → ℕ → List ℕ
unit words k = word_bytes (slice_index words (2 * k)) ++ word_bytes (slice_index words (2 * k + 1))

-- the bytes of `count` units from unit k on
abbrev pub units : List ℕ → ℕ → ℕ → List ℕ
units words k zero = []
units words k (suc count) = unit words k ++ units words (suc k) count

-- whether unit k is all 0
abbrev pub is_clear_unit : List ℕ → ℕ → Bool
is_clear_unit words k = (slice_index words (2 * k) == 0) && (slice_index words (2 * k + 1) == 0)

-- how many blocks `count` units take
abbrev pub blocks_of : ℕ → ℕ
blocks_of count = (count + 3) / 4

-- no word outside the `count` words from `first` on has changed
pub record KeepsOtherWords (old new : List ℕ) (first count : ℕ) : Type 0 where
  pub before : (k : ℕ) → k < first → slice_index new k ≡ slice_index old k
  pub after : (k : ℕ) → first + count ≤ k → slice_index new k ≡ slice_index old k
