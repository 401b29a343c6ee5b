-- What a run of a scenario leaves.
use Rattle.std.specs.Prelude.{ℕ, zero, suc, ◌≡◌, ◌⊎◌, Bool, false, true, List, [], ◌∷◌, is_some}
use Rattle.bus_core.specs.Mark.{Marked, entries}
use Rattle.verbs_types.specs.declared.declaration.Lines.{Lines}
use Rattle.verbs_rules.specs.Start.{start}
use Rattle.actor_map.specs.Notes.{AllServe}
use Rattle.object_places.specs.Objects.{Mark}
use Rattle.scenario_text.specs.declared.scenario.ScenarioParts.{ScenarioParts}
use Rattle.actor_rules.specs.Actors.{Actors, fresh_actors, after, says}
use Rattle.actor_rules.specs.Run.{IsRun, IsHistory, turns_alone, history, told as told_in}
use Rattle.operation_bounds.specs.Run.{IsBoundedRun}
use Rattle.marked_stores.specs.Stores.{SayEntries}
use Rattle.world_core.specs.declared.outcome.Outcome.{Outcome}

-- a thread has ended that has set its bit in the word of ended actors; the adapter never has
abbrev pub has_ended : Actors → ℕ → Bool
has_ended w zero = false
has_ended w (suc t) = (w.threads (suc t)).ended

-- a turn makes no operation, since its actor has ended
abbrev pub Passes : Actors → ℕ → Type 0
Passes w actor = has_ended w actor ≡ true

-- a turn makes this operation
pub record Makes (w : Actors) (actor : ℕ) (x : Marked Mark) : Type 0 where
  pub going : has_ended w actor ≡ false
  pub by : x.entry.actor ≡ actor

-- Each turn makes the next operation; the turn of an actor that has ended makes none.
abbrev pub AreTurns : Lines → Actors → List ℕ → List (Marked Mark) → Type 0
AreTurns d w [] [] = Unit {0}
AreTurns d w [] (x ∷ trace) = ⊥
AreTurns d w (actor ∷ turns) [] = Passes w actor × AreTurns d w turns []
AreTurns d w (actor ∷ turns) (x ∷ trace) = (Passes w actor × AreTurns d w turns (x ∷ trace)) ⊎ (Makes w actor x × AreTurns d (after d w x) turns trace)

-- which operations say an entry
abbrev pub marks_of : Lines → Actors → List (Marked Mark) → List Bool
marks_of d w [] = []
marks_of d w (x ∷ trace) = is_some (says d w x) ∷ marks_of d (after d w x) trace

-- The operations are a run of the scenario's actors in these turns, and the history is what they say.
pub record IsOutcome (s : ScenarioParts) (turns : List ℕ) (o : Outcome) : Type 0 where
  -- the operations, each with what it is about
  pub trace : List (Marked Mark)
  pub operations : entries trace ≡ o.trace.items
  -- each tells the word that it found, and each actor keeps the rule of its role
  pub run : IsRun s.lines s.programs (turns_alone trace)
  pub turned : AreTurns s.lines (fresh_actors s.lines s.programs) turns trace
  -- what the marked ones say, in order
  pub history_is : o.history ≡ history s.lines s.programs trace
  pub marks_are : o.marks.items ≡ marks_of s.lines (fresh_actors s.lines s.programs) trace
  -- no call takes more operations than it may, and the adapter goes on
  pub bounded : IsBoundedRun s.lines s.programs trace
  -- each store of a word in which actors take news of one another is a marked one
  pub told : SayEntries s.lines s.programs trace
  -- it is legal, and each thread's entries are those of its calls, each once and in order
  pub legal : IsHistory s.lines s.programs o.history
  -- and what each entry's maker saw of other actors serves for it
  pub serves : AllServe (start s.lines) (told_in s.lines s.programs trace)
