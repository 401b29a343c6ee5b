-- What a turn asks of a run.
use Rattle.std.proofs.Common.{◌≡◌, ◌∙◌, sym, List, subst, arith, ℕ, suc, ◌<◌, ◌≤◌, ◌^◌, length, Some, slice_get}
use Rattle.verbs_types.specs.declared.declaration.Lines.{Lines}
use Rattle.actor_map.specs.Sizes.{words_of}
use Rattle.device_engine.specs.View.{rule_of}
use Rattle.scenario_text.specs.declared.scenario.ScenarioParts.{ScenarioParts}
use Rattle.scenario_text.specs.Limits.{turn_count}
use Rattle.scenario_text.specs.Running.{CanRun}
use Rattle.thread_actor.specs.View.{ThreadView, thread_of}
use Rattle.world_core.specs.Holding.{low_after, Holds}
use Rattle.world_core.specs.Run.{RunView, AdapterCan, ThreadCan, CanOperate, CanTurn, IsGoing}
use Rattle.world_core.proofs.Turning.{weaken_adapter, weaken_thread}

module _ (s : ScenarioParts) (v : RunView) (can : CanRun s) (h : Holds s v) (left : length v.turns < turn_count (length s.lines.threads) s.plan) where
  below : low_after (length v.turns) ≤ 2 ^ 61
  below = omega (arith, left, can.plan.1)

  adapter_can : AdapterCan v
  adapter_can = record {
    small = weaken_adapter (low_after (length v.turns)) (2 ^ 61) (rule_of v.adapter) below h.stand.adapter.low;
    words = subst (λ (d : Lines). words_of d ≤ length v.bus.start) (sym h.stand.adapter.declared) (omega (arith, h.bus.words));
  }

  thread_can : (t : ℕ) (thread : ThreadView) → slice_get v.threads t ≡ Some thread → ThreadCan v thread
  thread_can t thread there = let stood = h.stand.threads t thread there in record {
    small = weaken_thread (low_after (length v.turns)) (2 ^ 61) (thread_of thread) below stood.low;
    words = subst (λ (d : Lines). words_of d ≤ length v.bus.start) (sym stood.lines) (omega (arith, h.bus.words));
  }

  pub can_turn : (actor : ℕ) → actor ≤ length s.programs → CanTurn v actor
  can_turn actor among = record {
    actor_is = omega (arith, among, h.stand.thread_count);
    few = omega (arith, h.stand.thread_count, can.paired, can.threads);
    room = omega (arith, left, h.bus.room);
    turns = omega (arith, left, h.bus.turns);
    adapter = adapter_can;
    threads = thread_can;
  }

-- what an operation of a thread asks
pub can_operate : (v : RunView) (place actor : ℕ) → CanTurn v (suc place) → IsGoing v.threads place → CanOperate v.threads place (record { actor = actor; start = v.bus.start; trace = v.bus.trace; room = v.bus.room })
can_operate v place actor can going = record {
  within = omega (arith, can.actor_is);
  going = going;
  room = can.room;
  small = λ (thread : ThreadView) there. (can.threads place thread there).small;
  words = λ (thread : ThreadView) there. (can.threads place thread there).words;
}

-- one thread stands at a place
pub same_thread : (threads : List ThreadView) (place : ℕ) (one other : ThreadView) → slice_get threads place ≡ Some one → slice_get threads place ≡ Some other → one ≡ other
same_thread threads place one other here there = let both : Some one ≡ Some other = sym here ∙ there in cc both
