-- The free places, as a bit a place.
use Rattle.std.specs.Prelude.{ℕ, ◌≡◌, ◌≢◌, ◌<◌, ◌/◌, ◌%◌, ◌==◌, Bool, true, false, List, slice_index, if◌then◌else◌}
use Rattle.std.specs.Int.{bit_at}
use Rattle.mkeys.specs.declared.table.TheConstants.{PLACES}

-- whether a place is free: 64 places have their bits in a word
abbrev pub is_free : List ℕ → ℕ → Bool
is_free words place = bit_at (slice_index words (place / 64)) (place % 64) == 1

-- the place is free, and each one below it is taken
pub record IsLowest (words : List ℕ) (place : ℕ) : Type 0 where
  pub inside : place < PLACES
  pub free : is_free words place ≡ true
  pub lower : (other : ℕ) → other < place → is_free words other ≡ false

-- no place is free
abbrev pub NoneFree : List ℕ → Type 0
NoneFree words = (place : ℕ) → place < PLACES → is_free words place ≡ false

-- this place is now free, or taken, and every other is as before
pub record Turns (old new : List ℕ) (place : ℕ) (free : Bool) : Type 0 where
  pub there : is_free new place ≡ free
  pub others : (other : ℕ) → other ≢ place → is_free new other ≡ is_free old other

-- the bits of one more word say which of the words have a bit
abbrev pub IsSummary : List ℕ → ℕ → Type 0
IsSummary words summary = (word : ℕ) → word < 64 → bit_at summary word ≡ (if slice_index words word == 0 then 0 else 1)
