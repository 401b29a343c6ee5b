-- What an operation on an arena's words is about.
use Rattle.std.specs.Prelude.{ℕ, Bool, true, false}

pub data CellMark : Type 0 where
  -- a user reads this cell
  Read : (cell : ℕ) → CellMark
  -- a user writes this cell
  Write : (cell : ℕ) → CellMark
  -- no user's
  Foreign : CellMark

-- whether it is made as a user of the cells
abbrev pub is_use : CellMark → Bool
is_use (Read cell) = true
is_use (Write cell) = true
is_use Foreign = false
