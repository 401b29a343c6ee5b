-- What a sink has, and what a write does to it.
use Rattle.std.specs.Prelude.{ℕ, ◌≡◌, ◌≤◌, List, [], length, take, Option, Result, IfOk, OnErr}
use Rattle.std.specs.Io.KnownBytes.{Appends, Keeps}
use Rattle.byte_streams.specs.Count.{Rose}

pub record SinkState : Type 0 where
  -- the bytes written, or `None` where the sink does not tell
  pub written : Option (List ℕ)
  pub faults : ℕ

-- a write of a piece
pub record Writes {E : Type 0} (old new : SinkState) (piece : List ℕ) (result : Result ℕ E) : Type 0 where
  pub within : IfOk result (λ n. n ≤ length piece)
  pub moves : IfOk result (λ n. n ≡ 0 → piece ≡ [])
  -- the bytes written have grown by the first of the piece
  pub takes : IfOk result (λ n. Appends old.written new.written (take n piece))
  pub fails : OnErr result (Rose old.faults new.faults)
  pub keeps : OnErr result (Keeps old.written new.written)
  pub never_falls : old.faults ≤ new.faults
