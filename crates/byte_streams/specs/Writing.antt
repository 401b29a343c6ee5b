-- What writing a whole text does to a sink.
use Rattle.std.specs.Prelude.{ℕ, ◌≤◌, List, take, Result, OnOk, OnErr}
use Rattle.std.specs.Io.KnownBytes.{Appends}
use Rattle.byte_streams.specs.Count.{Rose}
use Rattle.byte_streams.specs.Sink.{SinkState}

-- the bytes written have grown by some front part of a text
abbrev pub WritesPart : SinkState → SinkState → List ℕ → Type 0
WritesPart old new text = (n : ℕ) × Appends old.written new.written (take n text)

pub record WritesAll {T E : Type 0} (old new : SinkState) (text : List ℕ) (result : Result T E) : Type 0 where
  pub part : WritesPart old new text
  pub whole : OnOk result (Appends old.written new.written text)
  pub fails : OnErr result (Rose old.faults new.faults)
  pub never_falls : old.faults ≤ new.faults
