-- What a legal history of an arena means for who reads and writes its bytes.
use Rattle.std.specs.Prelude.{ℕ, ◌≡◌, ◌≢◌, ◌+◌, ◌<◌, ◌==◌, ◌++◌, List, ◌∷◌, Bool, false, length, filter, if◌then◌else◌}
use Rattle.std.specs.List.{AllByRecursion, Contains, fold}
use Rattle.mem_cells.specs.Cell.{Cell, unwritten}
use Rattle.mem_cells.specs.Arena.{CellEvent, Saw, Wrote, IsLegal, empty_arena}

abbrev pub cell_after : ℕ → Cell → CellEvent → Cell
cell_after cell before (Saw other found) = before
cell_after cell before (Wrote other left found) = if other == cell then left else before

-- what the last write to a cell left there
abbrev pub last_left : ℕ → List CellEvent → Cell
last_left cell events = fold (cell_after cell) unwritten events

-- In every legal history each read sees what the last write to its cell left, and each write finds that. Before the first write it is the byte 0, of nobody.
pub record KeepsBytes (size : ℕ) : Type 0 where
  pub seen : (before after : List CellEvent) (cell : ℕ) (found : Cell) → IsLegal size empty_arena (before ++ Saw cell found ∷ after) → found ≡ last_left cell before
  pub replaced : (before after : List CellEvent) (cell : ℕ) (left found : Cell) → IsLegal size empty_arena (before ++ Wrote cell left found ∷ after) → found ≡ last_left cell before

abbrev pub is_write_by : ℕ → CellEvent → Bool
is_write_by writer (Saw cell found) = false
is_write_by writer (Wrote cell left found) = left.writer == writer

abbrev pub writes_by : ℕ → List CellEvent → ℕ
writes_by writer events = length (filter (is_write_by writer) events)

-- the event leaves a cell as it was
abbrev pub LeavesAlone : ℕ → CellEvent → Type 0
LeavesAlone cell (Saw other found) = Unit {0}
LeavesAlone cell (Wrote other left found) = other ≢ cell

-- In every legal history a writer and a count name one write.
pub record NamesOneWrite (size : ℕ) : Type 0 where
  -- an actor's writes have the counts 1, 2, 3 and so on
  pub counted : (before after : List CellEvent) (cell : ℕ) (left found : Cell) → IsLegal size empty_arena (before ++ Wrote cell left found ∷ after) → left.count ≡ writes_by left.writer before + 1
  -- so no two writes leave the same writer and count
  pub once : (before between after : List CellEvent) (cell cell' : ℕ) (left found left' found' : Cell) →
      IsLegal size empty_arena (before ++ Wrote cell left found ∷ (between ++ Wrote cell' left' found' ∷ after)) → left'.writer ≡ left.writer → left.count < left'.count
  -- what is seen with a count was left by a write to that cell
  pub written : (before after : List CellEvent) (cell : ℕ) (found : Cell) → IsLegal size empty_arena (before ++ Saw cell found ∷ after) → 0 < found.count → (old : Cell) × Contains before (Wrote cell found old)
  -- a cell that shows the same writer and count again has the same byte, and nobody wrote it in between
  pub unchanged : (before between after : List CellEvent) (cell : ℕ) (first second : Cell) →
      IsLegal size empty_arena (before ++ Saw cell first ∷ (between ++ Saw cell second ∷ after)) → second.writer ≡ first.writer → second.count ≡ first.count →
      (second ≡ first) × AllByRecursion (LeavesAlone cell) between
