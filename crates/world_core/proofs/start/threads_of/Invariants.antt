-- The threads of the programs passed so far.
use Rattle.std.proofs.Common.{◌≡◌, ℕ, suc, List, [], length, Some, slice_get, slice_index_or}
use Rattle.thread_actor.specs.Fresh.{IsFresh}
use Rattle.thread_actor.specs.View.{ThreadView}
use Rattle.world_core.proofs.start.threads_of.Given as goal

abbrev pub invariant-loop-calls : goal.invariant-loop-calls
invariant-loop-calls l = record {
  count : length l.threads.items ≡ l.calls-index;
  each : (t : ℕ) (v : ThreadView) → slice_get l.threads.items t ≡ Some v → IsFresh l.declared (suc t) (slice_index_or l.programs t []) v;
}
