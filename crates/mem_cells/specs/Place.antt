-- Where the cells of an arena lie.
use Rattle.std.specs.Prelude.{ℕ, ◌≡◌, ◌+◌, ◌<◌, ◌&&◌, nat_le, nat_lt, Bool}

-- its first word, and the number of its cells: a word a cell, without gaps
pub record ArenaPlace : Type 0 where
  pub first : ℕ
  pub cells : ℕ

-- the address of a cell, by the number of its byte
abbrev pub cell_at : ArenaPlace → ℕ → ℕ
cell_at place cell = place.first + cell

-- whether an address is the arena's
abbrev pub touches : ArenaPlace → ℕ → Bool
touches place address = nat_le place.first address && nat_lt address (place.first + place.cells)

-- the address is that of this cell of the arena
pub record IsCellAt (place : ArenaPlace) (cell address : ℕ) : Type 0 where
  pub inside : cell < place.cells
  pub at_address : address ≡ cell_at place cell
