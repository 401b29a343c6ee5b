-- What holds of a run between two turns.
use Rattle.std.specs.Prelude.{ℕ, suc, ◌≡◌, ◌+◌, ◌*◌, ◌≤◌, ◌^◌, Bool, List, length, map, Some, slice_get}
use Rattle.std.specs.List.{fold}
use Rattle.bus_core.specs.Follow.{Follows}
use Rattle.bus_core.specs.Mark.{Marked, entries}
use Rattle.verbs_types.specs.declared.call.Call.{Call}
use Rattle.verbs_types.specs.declared.declaration.Lines.{Lines}
use Rattle.actor_map.specs.Sizes.{words_of}
use Rattle.actor_map.specs.Start.{starts}
use Rattle.object_places.specs.Objects.{Mark}
use Rattle.device_engine.specs.Counts.{CountsBelow}
use Rattle.device_engine.specs.View.{ScanView, rule_of}
use Rattle.actor_rules.specs.Actors.{Actors, fresh_actors, after}
use Rattle.actor_rules.specs.Roles.{MayAny}
use Rattle.actor_rules.specs.Run.{told}
use Rattle.scenario_text.specs.declared.scenario.ScenarioParts.{ScenarioParts}
use Rattle.scenario_text.specs.Limits.{turn_count}
use Rattle.thread_actor.specs.Small.{IsBelow}
use Rattle.thread_actor.specs.View.{ThreadView, thread_of}
use Rattle.noted_history.specs.OfNotes.{noted_of}
use Rattle.noted_history.specs.declared.log.Noted.{Noted}
use Rattle.world_core.specs.Outcome.{AreTurns, marks_of}
use Rattle.world_core.specs.Run.{RunView}

-- all actors after these operations
abbrev pub actors_after : Lines → List (List Call) → List (Marked Mark) → Actors
actors_after d programs trace = fold (after d) (fresh_actors d programs) trace

-- after `turns` turns every count and index is below this one: they begin at most at 2 ^ 32
abbrev pub low_after : ℕ → ℕ
low_after turns = 2 ^ 32 + 1 + 64 * turns

-- a machine is what its actor's rule says
pub record IsAdapter (d : Lines) (w : Actors) (turns : ℕ) (adapter : ScanView) : Type 0 where
  pub declared : adapter.declared ≡ d
  pub rule : rule_of adapter ≡ w.adapter
  pub low : CountsBelow (low_after turns) (rule_of adapter)

pub record IsThreadOf (d : Lines) (w : Actors) (turns actor : ℕ) (thread : ThreadView) : Type 0 where
  pub lines : thread.lines ≡ d
  pub number : thread.number ≡ actor
  pub rule : thread_of thread ≡ w.threads actor
  pub low : IsBelow (low_after turns) (thread_of thread)

-- the turns so far made these operations, these of them stand for an entry, and these are the notes of those
pub record MadeTurns (s : ScenarioParts) (turns : List ℕ) (marks_made : List Bool) (notes_made : List Noted) (trace : List (Marked Mark)) : Type 0 where
  pub keeps : Follows (MayAny s.lines) (after s.lines) (fresh_actors s.lines s.programs) trace
  pub turned : AreTurns s.lines (fresh_actors s.lines s.programs) turns trace
  pub notes : notes_made ≡ map noted_of (told s.lines s.programs trace)
  pub marks : marks_made ≡ marks_of s.lines (fresh_actors s.lines s.programs) trace

-- the actors after these operations
pub record Stand (s : ScenarioParts) (v : RunView) (trace : List (Marked Mark)) : Type 0 where
  pub adapter : IsAdapter s.lines (actors_after s.lines s.programs trace) (length v.turns) v.adapter
  pub thread_count : length v.threads ≡ length s.programs
  pub threads : (t : ℕ) (thread : ThreadView) → slice_get v.threads t ≡ Some thread
      → IsThreadOf s.lines (actors_after s.lines s.programs trace) (length v.turns) (suc t) thread

-- the bus has these operations, from the words with which a run begins, and there is room for the turns to come
pub record HasBus (s : ScenarioParts) (v : RunView) (trace : List (Marked Mark)) : Type 0 where
  pub start : v.bus.start ≡ starts s.lines 1
  pub words : length v.bus.start ≡ words_of s.lines
  pub operations : entries trace ≡ v.bus.trace
  pub room : turn_count (length s.lines.threads) s.plan ≤ v.bus.room + length v.turns
  pub turns : turn_count (length s.lines.threads) s.plan ≤ v.capacity

-- the run of a scenario so far
pub record Holds (s : ScenarioParts) (v : RunView) : Type 0 where
  pub trace : List (Marked Mark)
  pub made : MadeTurns s v.turns v.marks v.notes trace
  pub stand : Stand s v trace
  pub bus : HasBus s v trace
