-- The words of cells, where they lie, and values that are changed at one key.
use Rattle.std.proofs.Common.{◌≡◌, ◌≢◌, ℕ, ◌+◌, ◌<◌, ◌≤◌, ◌⊎◌, inl, inr, arith, true, false, eqb, leb, ltb}
use Rattle.std.proofs.lemmas.Bool.{and_parts, and_from, and_left, and_right, le-leb, lt-leb, le-ltb, lt-ltb, leb-true, ltb-true, cond-true, cond-false, eq-eqb, ne_eqb}
use Rattle.mem_cells.specs.Cell.{word_of, cell_of}
use Rattle.mem_cells.specs.Place.{ArenaPlace, cell_at, touches}
use Rattle.mem_cells.specs.Arena.{put}

-- a word is that of the cell that it is
pub word_of-cell_of : (word : ℕ) → word_of (cell_of word) ≡ word
word_of-cell_of word = omega arith

pub touches_cell : (place : ArenaPlace) (cell : ℕ) → cell < place.cells → touches place (cell_at place cell) ≡ true
touches_cell place cell h =
    let address = cell_at place cell in
    and_from (leb place.first address) (ltb address (place.first + place.cells)) (le-leb place.first address (omega arith)) (lt-ltb address (place.first + place.cells) (omega arith))

-- the arena's words are those of its cells
pub touched : (place : ArenaPlace) (address : ℕ) → touches place address ≡ true → (place.first ≤ address) × (address < place.first + place.cells)
touched place address h =
    let both = and_parts (leb place.first address) (ltb address (place.first + place.cells)) h in
    (leb-true place.first address both.0, ltb-true address (place.first + place.cells) both.1)

pub untouched : (place : ArenaPlace) (address : ℕ) → (address < place.first) ⊎ (place.first + place.cells ≤ address) → touches place address ≡ false
untouched place address outside = elim outside [
  | inl below ↦ and_left (leb place.first address) (ltb address (place.first + place.cells)) (lt-leb place.first address below)
  | inr above ↦ and_right (leb place.first address) (ltb address (place.first + place.cells)) (le-ltb address (place.first + place.cells) above)
]

pub put_here : {X : Type 0} (key k : ℕ) (x : X) (values : ℕ → X) → key ≡ k → put key x values k ≡ x
put_here key k x values same = cond-true (eqb key k) x (values k) (eq-eqb key k same)

pub put_there : {X : Type 0} (key k : ℕ) (x : X) (values : ℕ → X) → key ≢ k → put key x values k ≡ values k
put_there key k x values other = cond-false (eqb key k) x (values k) (ne_eqb key k other)
