-- What reading a whole text does to a source.
use Rattle.std.specs.Prelude.{ℕ, ◌≡◌, ◌+◌, ◌≤◌, ◌⊎◌, List, length}
use Rattle.std.specs.Io.KnownBytes.{Consumes, IsAtEnd}
use Rattle.mlx5_cli.specs.declared.reading.TheConstants.{TEXT_LIMIT}
use Rattle.mlx5_cli.specs.declared.reading.ReadError.{ReadError}
use Rattle.mlx5_cli.specs.declared.reading.ReadError.TheVariants.{Failed, TooLong, NoMemory}
use Rattle.byte_streams.specs.Count.{Rose}
use Rattle.byte_streams.specs.Source.{SourceState}

-- this text was all that was left
pub record ReadsWhole (old new : SourceState) (text : List ℕ) : Type 0 where
  pub gives : Consumes old.left new.left text
  pub ends : IsAtEnd new.left
  pub within : length text ≤ TEXT_LIMIT

-- these were the first bytes of what was left, one more than a text may have
pub record ReadsTooMuch (old new : SourceState) (bytes : List ℕ) : Type 0 where
  pub gives : Consumes old.left new.left bytes
  pub over : length bytes ≡ TEXT_LIMIT + 1

-- the source was read to its end, or to one byte more than a text may have
abbrev pub ReadsText : SourceState → SourceState → List ℕ → Type 0
ReadsText old new text = ReadsWhole old new text ⊎ ReadsTooMuch old new text

-- why a text was not read
abbrev pub StopsReading : SourceState → SourceState → ReadError → Type 0
StopsReading old new Failed = Rose old.faults new.faults
StopsReading old new TooLong = (bytes : List ℕ) × ReadsTooMuch old new bytes
StopsReading old new NoMemory = Unit {0}
