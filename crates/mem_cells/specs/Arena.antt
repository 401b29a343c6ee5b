-- What an arena stands for: a cell for each byte, and how many writes each actor made.
use Rattle.std.specs.Prelude.{ℕ, ◌≡◌, ◌+◌, ◌<◌, ◌==◌, List, if◌then◌else◌}
use Rattle.bus_core.specs.Follow.{Follows}
use Rattle.mem_cells.specs.Cell.{Cell, unwritten}

pub record Arena : Type 0 where
  pub cells : ℕ → Cell
  pub writes : ℕ → ℕ

-- before the first write
abbrev pub empty_arena : Arena
empty_arena = record { cells = λ p. unwritten; writes = λ writer. 0 }

-- what a marked operation says
pub data CellEvent : Type 0 where
  -- a read saw this in a cell
  Saw : (cell : ℕ) (found : Cell) → CellEvent
  -- a write left this in a cell, and found that
  Wrote : (cell : ℕ) (left found : Cell) → CellEvent

-- The step relation: when an event may happen in an arena of this many cells, and what it makes.
abbrev pub MayHappen : ℕ → Arena → CellEvent → Type 0
MayHappen size arena (Saw cell found) = (cell < size) × (found ≡ arena.cells cell)
MayHappen size arena (Wrote cell left found) = (cell < size) × (found ≡ arena.cells cell) × (left.count ≡ arena.writes left.writer + 1)

-- the same values, but this one at this key
abbrev pub put : {X : Type 0} → ℕ → X → (ℕ → X) → ℕ → X
put key x values k = if key == k then x else values k

abbrev pub after_event : Arena → CellEvent → Arena
after_event arena (Saw cell found) = arena
after_event arena (Wrote cell left found) = record { cells = put cell left arena.cells; writes = put left.writer left.count arena.writes }

abbrev pub IsLegal : ℕ → Arena → List CellEvent → Type 0
IsLegal size arena events = Follows (MayHappen size) after_event arena events
