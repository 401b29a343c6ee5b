-- What a source has, and what a read does to it.
use Rattle.std.specs.Prelude.{ℕ, ◌≡◌, ◌<◌, ◌≤◌, List, length, take, Option, Result, IfOk, OnErr}
use Rattle.std.specs.Io.KnownBytes.{Consumes, IsAtEnd}
use Rattle.byte_streams.specs.Count.{Rose}

pub record SourceState : Type 0 where
  -- the bytes left, or `None` where the source does not tell
  pub left : Option (List ℕ)
  pub faults : ℕ

-- a read into a buffer, which then has these bytes
pub record Reads {E : Type 0} (old new : SourceState) (buffer : List ℕ) (result : Result ℕ E) : Type 0 where
  pub within : IfOk result (λ n. n ≤ length buffer)
  -- the bytes given are the first of those left, which leave the source
  pub gives : IfOk result (λ n. Consumes old.left new.left (take n buffer))
  pub ends : IfOk result (λ n. n ≡ 0 → 0 < length buffer → IsAtEnd new.left)
  pub fails : OnErr result (Rose old.faults new.faults)
  pub never_falls : old.faults ≤ new.faults
