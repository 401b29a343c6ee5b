-- The rule of a user of an arena, over its own operations on the arena's words.
use Rattle.std.specs.Prelude.{ℕ, ◌≡◌, ◌+◌, ◌<◌, Option, Some, None}
use Rattle.bus_core.specs.declared.operation.BusEntry.{BusEntry}
use Rattle.bus_core.specs.Operation.{IsLoad, IsSwap, loaded, stored}
use Rattle.mem_cells.specs.Cell.{writer_of, count_of, cell_of}
use Rattle.mem_cells.specs.Place.{ArenaPlace, cell_at}
use Rattle.mem_cells.specs.Arena.{CellEvent, Saw, Wrote}
use Rattle.mem_cells.specs.Mark.{CellMark, Read, Write, Foreign}

-- its actor's number, and how many writes it made
pub record User : Type 0 where
  pub writer : ℕ
  pub writes : ℕ

abbrev pub new_user : ℕ → User
new_user actor = record { writer = actor; writes = 0 }

pub record MayRead (place : ArenaPlace) (cell : ℕ) (e : BusEntry) : Type 0 where
  pub inside : cell < place.cells
  pub load : IsLoad (cell_at place cell) e

-- the word that is swapped in has the user's number, and the count of this write
pub record MayWrite (place : ArenaPlace) (user : User) (cell : ℕ) (e : BusEntry) : Type 0 where
  pub inside : cell < place.cells
  pub swap : IsSwap (cell_at place cell) (stored e) e
  pub writer : writer_of (stored e) ≡ user.writer
  pub count : count_of (stored e) ≡ user.writes + 1

abbrev pub MayUse : ArenaPlace → User → CellMark → BusEntry → Type 0
MayUse place user (Read cell) e = MayRead place cell e
MayUse place user (Write cell) e = MayWrite place user cell e
MayUse place user Foreign e = ⊥

abbrev pub after_use : User → CellMark → User
after_use user (Read cell) = user
after_use user (Write cell) = record { writer = user.writer; writes = user.writes + 1 }
after_use user Foreign = user

-- what the operation says: a read the cell that it loaded, a write the cell that it left and the one that it found
abbrev pub use_says : CellMark → BusEntry → Option CellEvent
use_says (Read cell) e = Some (Saw cell (cell_of (loaded e)))
use_says (Write cell) e = Some (Wrote cell (cell_of (stored e)) (cell_of (loaded e)))
use_says Foreign e = None
