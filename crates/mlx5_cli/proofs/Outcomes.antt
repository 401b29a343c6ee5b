-- The operations and the entries of a run are of declared actors.
use Rattle.std.proofs.Common.{◌≡◌, ◌∙◌, ℕ, zero, suc, ◌+◌, ◌≤◌, List, [], ◌∷◌, length, map, All, inl, inr, ⊎_elim, replicate, refl, sym, ap, subst, arith, Option, None, Some, option_map}
use Rattle.std.specs.List.{flat_map, range_with_len, cons_option}
use Rattle.std.proofs.lemmas.List.{length-map}
use Rattle.std.proofs.lemmas.Bool.Decides.{nat_tests}
use Rattle.std.proofs.lemmas.List.Elements.{All-append, All-cons, All-head, All-replicate, All-tail}
use Rattle.bus_core.specs.declared.operation.BusEntry.{BusEntry}
use Rattle.bus_core.specs.Mark.{Marked, entries}
use Rattle.bus_core.specs.Weave.{spelled}
use Rattle.verbs_types.specs.declared.declaration.Lines.{Lines}
use Rattle.verbs_types.specs.declared.entry.Entry.{Entry}
use Rattle.verbs_types.specs.declared.entry.What.{What}
use Rattle.verbs_rules.specs.Start.{start}
use Rattle.object_places.specs.Objects.{Mark}
use Rattle.actor_rules.specs.Actors.{Actors, fresh_actors, after, says, what_of, by}
use Rattle.actor_rules.specs.Run.{history}
use Rattle.scenario_text.specs.declared.scenario.Plan.{Plan}
use Rattle.scenario_text.specs.declared.scenario.Plan.TheVariants.{Idle, Schedule, Rounds}
use Rattle.scenario_text.specs.declared.scenario.PlanItem.{PlanItem}
use Rattle.scenario_text.specs.declared.scenario.ScenarioParts.{ScenarioParts}
use Rattle.scenario_text.specs.Limits.{times_of, turns_of, round_of, rounds_of}
use Rattle.scenario_text.specs.Running.{CanRun, IsActorOf, IsPlan}
use Rattle.transcript_text.specs.Numbers.{IsActor, IsEntry}
use Rattle.transcript_text.specs.Trace.{IsOperation}
use Rattle.world_core.specs.declared.outcome.Outcome.{Outcome}
use Rattle.world_core.specs.Outcome.{AreTurns, IsOutcome, marks_of}
use Rattle.mlx5_cli.proofs.Names.{Lives, names_of_legal}

-- The turns of a plan

turns_of_items : (threads : ℕ) (items : List PlanItem) → All (IsActorOf threads) items → All (λ t. t ≤ threads) (flat_map (λ (i : PlanItem). replicate (times_of i) i.actor) items)
turns_of_items threads [] are = λ k e below. absurd (omega (arith, below))
turns_of_items threads (i ∷ items) are =
    All-append (λ t. t ≤ threads) (replicate (times_of i) i.actor) (flat_map (λ (i : PlanItem). replicate (times_of i) i.actor) items)
    (All-replicate (λ t. t ≤ threads) (times_of i) i.actor (All-head (IsActorOf threads) i items are))
    (turns_of_items threads items (All-tail (IsActorOf threads) i items are))

turns_in_row : (threads first n : ℕ) → first + n ≤ threads + 1 → All (λ t. t ≤ threads) (range_with_len first n)
turns_in_row threads first zero within = λ k e below. absurd (omega (arith, below))
turns_in_row threads first (suc n) within =
    All-cons (λ t. t ≤ threads) first (range_with_len (first + 1) n) (omega (arith, within)) (turns_in_row threads (first + 1) n (omega (arith, within)))

turns_of_round : (threads : ℕ) → All (λ t. t ≤ threads) (round_of threads)
turns_of_round threads =
    All-append (λ t. t ≤ threads) (range_with_len 1 threads) (0 ∷ []) (turns_in_row threads 1 threads (omega arith)) (All-cons (λ t. t ≤ threads) 0 [] (omega arith) (λ k e below. absurd (omega (arith, below))))

turns_of_rounds : (threads n : ℕ) → All (λ t. t ≤ threads) (rounds_of threads n)
turns_of_rounds threads zero = λ k e below. absurd (omega (arith, below))
turns_of_rounds threads (suc n) = All-append (λ t. t ≤ threads) (round_of threads) (rounds_of threads n) (turns_of_round threads) (turns_of_rounds threads n)

turns_of_plan : (d : Lines) (plan : Plan) → IsPlan d plan → All (λ t. t ≤ length d.threads) (turns_of (length d.threads) plan)
turns_of_plan d Idle is = λ k e below. absurd (omega (arith, below))
turns_of_plan d (Rounds n) is = turns_of_rounds (length d.threads) n
turns_of_plan d (Schedule items) is = turns_of_items (length d.threads) items is.0

actor_declared : (d : Lines) (n : ℕ) → n ≤ length d.threads → IsActor d n
actor_declared d zero below = inl refl
actor_declared d (suc t) below = inr (inr (grind (arith, nat_tests, below)))

-- The operations that turns make are of the actors of these turns, and so are the entries that they say.

operations_of_turns : (P : ℕ → Type 0) (d : Lines) (w : Actors) (turns : List ℕ) (trace : List (Marked Mark)) → All P turns → AreTurns d w turns trace → All (λ (x : Marked Mark). P x.entry.actor) trace
operations_of_turns P d w turns [] are turned = λ k e below. absurd (omega (arith, below))
operations_of_turns P d w [] (x ∷ trace) are turned = absurd turned
operations_of_turns P d w (actor ∷ turns) (x ∷ trace) are turned =
    ⊎_elim (λ passes. operations_of_turns P d w turns (x ∷ trace) (All-tail P actor turns are) passes.1)
    (λ makes.
    All-cons (λ (y : Marked Mark). P y.entry.actor) x trace (subst P (sym makes.0.by) (All-head P actor turns are))
    (operations_of_turns P d (after d w x) turns trace (All-tail P actor turns are) makes.1))
    turned

one_more : (P : ℕ → Type 0) (actor : ℕ) (said : Option What) (rest : List Entry) → P actor → All (λ (e : Entry). P e.actor) rest → All (λ (e : Entry). P e.actor) (cons_option (option_map (by actor) said) rest)
one_more P actor None rest p are = are
one_more P actor (Some what) rest p are = All-cons (λ (e : Entry). P e.actor) (by actor what) rest p are

entries_of_operations : (P : ℕ → Type 0) (d : Lines) (w : Actors) (trace : List (Marked Mark)) → All (λ (x : Marked Mark). P x.entry.actor) trace → All (λ (e : Entry). P e.actor) (spelled (after d) (says d) w trace)
entries_of_operations P d w [] are = λ k e below. absurd (omega (arith, below))
entries_of_operations P d w (x ∷ trace) are =
    one_more P x.entry.actor (what_of d w x.entry.actor x) (spelled (after d) (says d) (after d w x) trace) (All-head (λ (y : Marked Mark). P y.entry.actor) x trace are)
    (entries_of_operations P d (after d w x) trace (All-tail (λ (y : Marked Mark). P y.entry.actor) x trace are))

bare : (P : ℕ → Type 0) (trace : List (Marked Mark)) → All (λ (x : Marked Mark). P x.entry.actor) trace → All (λ (e : BusEntry). P e.actor) (entries trace)
bare P [] are = λ k e below. absurd (omega (arith, below))
bare P (x ∷ trace) are =
    All-cons (λ (e : BusEntry). P e.actor) x.entry (entries trace) (All-head (λ (y : Marked Mark). P y.entry.actor) x trace are) (bare P trace (All-tail (λ (y : Marked Mark). P y.entry.actor) x trace are))

marks_long : (d : Lines) (w : Actors) (trace : List (Marked Mark)) → length (marks_of d w trace) ≡ length trace
marks_long d w [] = refl
marks_long d w (x ∷ trace) = omega (arith, marks_long d (after d w x) trace)

module _ (s : ScenarioParts) (can : CanRun s) (o : Outcome) (is : IsOutcome s (turns_of (length s.lines.threads) s.plan) o) where
  made : All (λ (x : Marked Mark). x.entry.actor ≤ length s.lines.threads) is.trace
  made = operations_of_turns (λ t. t ≤ length s.lines.threads) s.lines (fresh_actors s.lines s.programs) (turns_of (length s.lines.threads) s.plan) is.trace (turns_of_plan s.lines s.plan can.plan) is.turned

  said : All (λ (e : Entry). e.actor ≤ length s.lines.threads) o.history
  said = subst (λ (h : List Entry). All (λ (e : Entry). e.actor ≤ length s.lines.threads) h) (sym is.history_is)
      (entries_of_operations (λ t. t ≤ length s.lines.threads) s.lines (fresh_actors s.lines s.programs) is.trace made)

  pub outcome_entries : All (IsEntry s.lines) o.history
  outcome_entries = λ k e below. (
    actor_declared s.lines _ (said k e below),
    names_of_legal s.lines (start s.lines) o.history (record { pairs = refl; completions = refl }) is.legal.legal k e below,
  )

  pub outcome_operations : All (IsOperation s.lines) o.trace.items
  outcome_operations = subst (λ (es : List BusEntry). All (IsOperation s.lines) es) is.operations
      (λ k e below. actor_declared s.lines _ (bare (λ t. t ≤ length s.lines.threads) is.trace made k e below))

  pub outcome_long : length o.marks.items ≡ length o.trace.items
  outcome_long = ap (λ bs. length bs) is.marks_are
      ∙ marks_long s.lines (fresh_actors s.lines s.programs) is.trace
      ∙ sym (length-map is.trace (λ (x : Marked Mark). x.entry))
      ∙ ap (λ (es : List BusEntry). length es) is.operations
