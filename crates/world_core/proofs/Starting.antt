-- A run before its first turn, and what a turn asks of it.
use Rattle.std.proofs.Common.{◌≡◌, ◌∙◌, refl, sym, ap, subst, arith, ℕ, suc, ◌+◌, ◌<◌, ◌^◌, nat_le, nat_lt, not, Bool, true, ◌&&◌, List, [], length, None, Some, slice_get, slice_index_or}
use Rattle.std.proofs.lemmas.Option.{slice_get_within}
use Rattle.verbs_types.specs.declared.call.Call.{Call}
use Rattle.verbs_types.specs.declared.declaration.Lines.{Lines}
use Rattle.counted_ring.specs.Law.{fresh_poster}
use Rattle.device_engine.specs.Counts.{CountsBelow, CountsGrow}
use Rattle.provider_poll.specs.Fresh.{fresh_rule}
use Rattle.actor_rules.specs.Thread.{queue_start, fresh_thread}
use Rattle.actor_rules.specs.Actors.{Actors, fresh_actors}
use Rattle.scenario_text.specs.declared.scenario.ScenarioParts.{ScenarioParts}
use Rattle.scenario_text.specs.Running.{CanRun}
use Rattle.thread_actor.specs.Fresh as thread
use Rattle.thread_actor.specs.View.{ThreadView}
use Rattle.world_core.specs.Holding.{IsAdapter, IsThreadOf, MadeTurns, Holds}
use Rattle.world_core.specs.Run.{RunView}
use Rattle.world_core.specs.Start.{IsFirst}

fresh_is : (d : Lines) (programs : List (List Call)) (t : ℕ) → t < length programs → thread.fresh_thread d (slice_index_or programs t []) ≡ fresh_thread d programs (suc t)
fresh_is d programs t low =
    let some : nat_lt 0 (suc t) ≡ true = grind arith in
    let most : nat_le (suc t) (length programs) ≡ true = grind (arith, low) in
    ap (λ (b : Bool). record {
      calls = slice_index_or programs t [];
      posting = None;
      given = [];
      posters = λ queue. fresh_poster (queue_start d queue);
      polls = fresh_rule d;
      ended = b;
    }) (sym (ap (λ (b : Bool). not (b && nat_le (suc t) (length programs))) some ∙ ap not most))

module _ (s : ScenarioParts) (v : RunView) (can : CanRun s) (grow : CountsGrow) (f : IsFirst s v) where
  abbrev first : Actors
  first = fresh_actors s.lines s.programs

  none_made : MadeTurns s [] [] [] []
  none_made = record { keeps = tt; turned = tt; notes = refl; marks = refl }

  first_thread : (t : ℕ) (view : ThreadView) → slice_get v.threads t ≡ Some view → IsThreadOf s.lines first 0 (suc t) view
  first_thread t view there =
      let low : t < length s.programs = omega (arith, slice_get_within v.threads t view there, f.threads.count) in
      let fresh : thread.IsFresh s.lines (suc t) (slice_index_or s.programs t []) view = f.threads.each t view there in
      record {
        lines = fresh.lines;
        number = fresh.number_is;
        rule = fresh.rule ∙ fresh_is s.lines s.programs t low;
        low = fresh.below;
      }

  first_adapter : IsAdapter s.lines first 0 v.adapter
  first_adapter = record {
    declared = f.adapter.declared;
    rule = f.adapter.rule;
    low = subst (CountsBelow (2 ^ 32 + 1)) (sym f.adapter.rule) (grow.first s.lines can.declared);
  }

  pub first_holds : Holds s v
  first_holds =
      let none : 0 ≡ length v.turns = ap (λ (ts : List ℕ). length ts) (sym f.turns) in
      record {
        trace = [];
        made = coe 0 1 (i. MadeTurns s (sym f.turns i) (sym f.marks i) (sym f.notes i) []) none_made;
        stand = record {
          adapter = subst (λ n. IsAdapter s.lines first n v.adapter) none first_adapter;
          thread_count = f.threads.count;
          threads = λ (t : ℕ) (view : ThreadView) there. subst (λ n. IsThreadOf s.lines first n (suc t) view) none (first_thread t view there);
        };
        bus = record {
          start = f.bus.start;
          words = f.bus.words;
          operations = sym f.bus.trace;
          room = omega (arith, f.bus.room_is);
          turns = f.capacity;
        };
      }
