-- A work queue as it is kept.
use Rattle.std.specs.Prelude.{ℕ}
use Rattle.verbs_rules.specs.OfOne.{WorkQueue}

pub record Held : Type 0 where
  pub queue : WorkQueue
  -- how many more polled completions it can keep without an allocation
  pub spare : ℕ
