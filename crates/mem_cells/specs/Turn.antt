-- What an operation of a `CellUser` is.
use Rattle.std.specs.Prelude.{ℕ, ◌≡◌, ◌+◌, Some}
use Rattle.bus_core.specs.declared.operation.BusEntry.{BusEntry}
use Rattle.bus_core.specs.Operation.{IsLoad, IsSwap, loaded}
use Rattle.mem_cells.specs.Cell.{Cell, word_of, cell_of}
use Rattle.mem_cells.specs.Place.{ArenaPlace, IsCellAt}
use Rattle.mem_cells.specs.Arena.{Saw, Wrote}
use Rattle.mem_cells.specs.Mark.{Read, Write}
use Rattle.mem_cells.specs.User.{User, MayUse, after_use, use_says}

-- a load of the word, which is the answer; as a user's read of the cell that lies there it keeps the rule, and says what the answer is
pub record ReadTurn (user : User) (address : ℕ) (e : BusEntry) (answer : ℕ) : Type 0 where
  pub load : IsLoad address e
  pub found : answer ≡ loaded e
  pub may : (place : ArenaPlace) (cell : ℕ) → IsCellAt place cell address → MayUse place user (Read cell) e
  pub says : (cell : ℕ) → use_says (Read cell) e ≡ Some (Saw cell (cell_of answer))

-- what a user leaves in a cell with its next write
abbrev pub next_cell : User → ℕ → Cell
next_cell user byte = record { byte = byte; writer = user.writer; count = user.writes + 1 }

-- a swap, whose answer is the old word
pub record WriteTurn (old new : User) (address byte : ℕ) (e : BusEntry) (answer : ℕ) : Type 0 where
  pub swap : IsSwap address (word_of (next_cell old byte)) e
  pub found : answer ≡ loaded e
  pub may : (place : ArenaPlace) (cell : ℕ) → IsCellAt place cell address → MayUse place old (Write cell) e
  pub says : (cell : ℕ) → use_says (Write cell) e ≡ Some (Wrote cell (next_cell old byte) (cell_of answer))
  pub user : (cell : ℕ) → new ≡ after_use old (Write cell)
