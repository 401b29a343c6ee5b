-- A thread before the first of its calls.
use Rattle.std.specs.Prelude.{ℕ, ◌≡◌, ◌+◌, ◌<◌, ◌≤◌, ◌^◌, false, List, [], length, None}
use Rattle.std.specs.List.{AllByRecursion}
use Rattle.verbs_types.specs.declared.call.Call.{Call}
use Rattle.verbs_types.specs.declared.declaration.Lines.{Lines}
use Rattle.counted_ring.specs.Law.{fresh_poster}
use Rattle.provider_poll.specs.Fresh.{fresh_rule}
use Rattle.actor_rules.specs.Thread.{Thread, queue_start}
use Rattle.thread_actor.specs.Calls.{CanCall}
use Rattle.thread_actor.specs.Small.{IsBelow}
use Rattle.thread_actor.specs.View.{ThreadView, thread_of}

-- as the rule of threads has one that has done nothing yet
abbrev pub fresh_thread : Lines → List Call → Thread
fresh_thread d calls = record {
  calls = calls;
  posting = None;
  given = [];
  posters = λ queue. fresh_poster (queue_start d queue);
  polls = fresh_rule d;
  ended = false;
}

pub record IsFresh (d : Lines) (number : ℕ) (calls : List Call) (v : ThreadView) : Type 0 where
  pub lines : v.lines ≡ d
  pub number_is : v.number ≡ number
  pub program : v.program ≡ calls
  pub finished : v.finished ≡ 0
  pub rule : thread_of v ≡ fresh_thread d calls
  -- indices begin with those of the lines, at most 2 ^ 32
  pub below : IsBelow (2 ^ 32 + 1) (thread_of v)

-- a thread of one of 16 numbers with so few calls, each of which it can make
pub record CanRun (d : Lines) (number : ℕ) (calls : List Call) : Type 0 where
  pub some : 0 < number
  pub most : number ≤ 16
  pub few : length calls ≤ 2 ^ 16
  pub each : AllByRecursion (CanCall d) calls
