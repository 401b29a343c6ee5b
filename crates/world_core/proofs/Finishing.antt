-- What the turns of a world leave.
use Rattle.std.proofs.Common.{◌≡◌, ◌∙◌, sym, subst, ℕ, List, slice_index}
use Rattle.bus_core.specs.declared.operation.BusEntry.{BusEntry}
use Rattle.bus_core.specs.Mark.{Marked, entries}
use Rattle.bus_core.specs.Trace.{IsConsistent}
use Rattle.verbs_types.specs.declared.call.Call.{Call}
use Rattle.verbs_types.specs.declared.declaration.Lines.{Lines}
use Rattle.verbs_rules.specs.Within.{Bounds}
use Rattle.verbs_rules.specs.Start.{start}
use Rattle.verbs_rules.specs.State.{Verbs}
use Rattle.object_places.specs.Objects.{Mark}
use Rattle.actor_rules.specs.Actors.{fresh_actors}
use Rattle.actor_rules.specs.Ready.{AreReady}
use Rattle.actor_map.specs.Notes.{Told, entries_of}
use Rattle.actor_map.specs.Start.{start_words}
use Rattle.actor_rules.specs.Run.{Phases, IsRun, IsHistory, IsWoven, whole, turns_alone, history, told as told_in}
use Rattle.actor_rules.proofs.Phases.{whole_is}
use Rattle.actor_rules.proofs.Keeping.{own_keep}
use Rattle.actor_rules.proofs.Told.{entries_told}
use Rattle.operation_bounds.specs.Run.{IsBoundedRun}
use Rattle.marked_stores.specs.Stores.{SayEntries}
use Rattle.scenario_text.specs.declared.scenario.ScenarioParts.{ScenarioParts}
use Rattle.scenario_text.specs.Running.{CanRun}
use Rattle.ready_scenarios.specs.Ready.{IsReady, bounds_of}
use Rattle.noted_history.specs.OfNotes.{HasNotes}
use Rattle.world_core.specs.declared.outcome.Outcome.{Outcome}
use Rattle.world_core.specs.Holding.{Holds}
use Rattle.world_core.specs.Outcome.{IsOutcome}
use Rattle.world_core.specs.Run.{RunView}

-- a law of every run of programs that are ready
abbrev pub LawOf : (Lines → List (List Call) → List (Marked Mark) → Type 0) → Type 0
LawOf Claim = (d : Lines) (programs : List (List Call)) (bounds : Bounds) (phases : Phases) → AreReady d programs bounds → IsRun d programs phases → Claim d programs (whole phases)

abbrev pub ReadyLaw : Type 0
ReadyLaw = (s : ScenarioParts) → CanRun s → IsReady s

module _ (s : ScenarioParts) (v : RunView) (h : Holds s v) (consistent : IsConsistent (slice_index v.bus.start) v.bus.trace) where
  pub run_is : IsRun s.lines s.programs (turns_alone h.trace)
  run_is = record {
    consistent = subst (λ (ops : List (Marked Mark)). IsConsistent (start_words s.lines 1) (entries ops)) (sym (whole_is h.trace)) (subst (λ (ws : List ℕ). IsConsistent (slice_index ws) (entries h.trace)) h.bus.start
        (subst (λ (es : List BusEntry). IsConsistent (slice_index v.bus.start) es) (sym h.bus.operations) consistent));
    opens = λ actor. tt;
    turns = own_keep s.lines h.trace (fresh_actors s.lines s.programs) h.made.keeps;
    closes = λ actor. tt;
  }

  -- what a law says of this run
  pub by_law : (Claim : Lines → List (List Call) → List (Marked Mark) → Type 0) → LawOf Claim → ReadyLaw → CanRun s → Claim s.lines s.programs h.trace
  by_law Claim law ready can = subst (Claim s.lines s.programs) (whole_is h.trace) (law s.lines s.programs (bounds_of s.lines s.programs) (turns_alone h.trace) (ready s can).law run_is)

  -- what the marked operations tell
  abbrev pub tale : List Told
  tale = told_in s.lines s.programs h.trace

  pub entries_are : entries_of tale ≡ history s.lines s.programs h.trace
  entries_are = entries_told s.lines (fresh_actors s.lines s.programs) h.trace

  module _ (law : IsWoven s.lines s.programs h.trace) where
    pub told : (first : Verbs) (programs : List (List Call)) → first ≡ start s.lines → programs ≡ s.programs → HasNotes first programs v.notes tale
    told first programs first_is programs_are =
        subst (λ (u : Verbs). HasNotes u programs v.notes tale) (sym first_is)
        (subst (λ (ps : List (List Call)). HasNotes (start s.lines) ps v.notes tale) (sym programs_are)
        (record { legal = legal.legal; answered = legal.answered; serves = law.serves; notes_are = h.made.notes }))
      where
        legal : IsHistory s.lines s.programs (entries_of tale)
        legal = subst (IsHistory s.lines s.programs) (sym entries_are) law.history

    pub outcome_is : (o : Outcome) → IsBoundedRun s.lines s.programs h.trace → SayEntries s.lines s.programs h.trace → o.trace.items ≡ v.bus.trace → o.marks.items ≡ v.marks → o.history ≡ entries_of tale → IsOutcome s v.turns o
    outcome_is o bounded says trace marks told_is = record {
      trace = h.trace;
      operations = h.bus.operations ∙ sym trace;
      run = run_is;
      turned = h.made.turned;
      history_is = told_is ∙ entries_are;
      marks_are = marks ∙ h.made.marks;
      bounded = bounded;
      told = says;
      legal = subst (IsHistory s.lines s.programs) (sym (told_is ∙ entries_are)) law.history;
      serves = law.serves;
    }
