-- How lines come out of a text that is read byte by byte.
use Rattle.std.specs.Prelude.{ℕ, ◌≡◌, ◌==◌, if◌then◌else◌, List, [], ◌∷◌, ◌++◌, take}
use Rattle.std.specs.Io.KnownBytes.{Appends}
use Rattle.byte_streams.specs.Count.{Rose}
use Rattle.byte_streams.specs.Sink.{SinkState}
use Rattle.byte_streams.specs.Writing.{WritesPart}
use Rattle.mlx5_dump.specs.declared.status.Status.{Status}
use Rattle.mlx5_dump.specs.declared.status.Status.TheVariants.{Done, WriteFault, NoMemory}
use Rattle.mlx5_dump.specs.declared.dump.TheConstants.{LINE_ROOM}
use Rattle.mlx5_dump.specs.Line.{IsAnswer}
use Rattle.mlx5_dump.specs.Lines.{AreAnswers, with_end}

-- the lines that end in the text, where the first one has begun
abbrev pub ended : List ℕ → List ℕ → List (List ℕ)
ended line [] = []
ended line (byte ∷ text) = if byte == 10 then line ∷ ended [] text else ended (line ++ byte ∷ []) text

-- what has then begun
abbrev pub begun : List ℕ → List ℕ → List ℕ
begun line [] = line
begun line (byte ∷ text) = if byte == 10 then begun [] text else begun (line ++ byte ∷ []) text

-- the front of a line, as far as there is room for it
abbrev pub Keeps : List ℕ → List ℕ → Type 0
Keeps kept line = kept ≡ take LINE_ROOM line

-- the lines that end in a piece were answered
pub record Feeds (line piece kept old new : List ℕ) : Type 0 where
  pub answers : List ℕ
  pub answered : AreAnswers (ended line piece) answers
  pub grown : new ≡ old ++ answers
  pub keeps : Keeps kept (begun line piece)

-- a text has grown by the answer to a line and a line end
pub record AddsLine (line old new : List ℕ) : Type 0 where
  pub answer : List ℕ
  pub answered : IsAnswer line answer
  pub grown : new ≡ old ++ with_end answer

-- lines were answered, and this is so of the answers
pub record AreAnswered (lines : List (List ℕ)) (IsWritten : List ℕ → Type 0) : Type 0 where
  pub answers : List ℕ
  pub answered : AreAnswers lines answers
  pub writes : IsWritten answers

-- what became of the answers to some lines
abbrev pub WroteSays : List (List ℕ) → SinkState → SinkState → Status → Type 0
WroteSays lines old new Done = AreAnswered lines (Appends old.written new.written)
WroteSays lines old new WriteFault = AreAnswered lines (WritesPart old new) × Rose old.faults new.faults
WroteSays lines old new NoMemory = new ≡ old
WroteSays lines old new _ = ⊥
