-- The first and the last line of a thread keep what holds.
use Rattle.std.proofs.Common.{◌≡◌, ℕ, suc, ◌+◌, ◌≤◌, List, [], ◌∷◌, ◌++◌, length, All, sum_by, refl, sym, ap, ◌∙◌, subst, arith}
use Rattle.std.proofs.lemmas.List.{length_push}
use Rattle.std.proofs.lemmas.List.Elements.{All-nil, All-push, All-weaker}
use Rattle.std.proofs.lemmas.List.Sums.{sum_by_push}
use Rattle.verbs_types.specs.declared.call.Call.{Call}
use Rattle.scenario_text.specs.Text.{name_in}
use Rattle.scenario_text.specs.AfterCalls.{add_thread, add_end}
use Rattle.scenario_text.specs.Calls.{IsCall, IsProgram}
use Rattle.scenario_text.specs.Keywords.{place_of}
use Rattle.scenario_text.specs.Limits.{posted_by, received_by}
use Rattle.scenario_text.specs.Running.{IsActorOf, items_of_plan}
use Rattle.scenario_text.specs.Sofar.{Said}
use Rattle.scenario_text.specs.Text.{Line}
use Rattle.scenario_text.specs.declared.scenario.PlanItem.{PlanItem}
use Rattle.scenario_text.specs.declared.sofar.Place.TheVariants.{Outside, InThread}
use Rattle.scenario_text.proofs.Declaring.{with_thread, more_thread}
use Rattle.scenario_text.proofs.Filling.{filled_same}
use Rattle.scenario_text.proofs.Growing.{each_push}
use Rattle.scenario_text.proofs.Meanings.{all_there_push}
use Rattle.scenario_text.proofs.Objects.{declared_thread}
use Rattle.scenario_text.proofs.Rooms.{SameCounts}
use Rattle.scenario_text.proofs.Standing.{AreHeld, AreFilled, AllHeld, IsHeld, IsOpen, Stands, shown, shown_in}

-- a thread that calls nothing yet
module _ (line : Line) (s : Said) (outside : s.place ≡ Outside) (h : Stands s) where
  was_open : IsOpen s.lines Outside s.calls s.requests s.receives
  was_open = subst (λ p. IsOpen s.lines p s.calls s.requests s.receives) outside h.opened

  none_counted : (by : Call → ℕ) → sum_by (λ (cs : List Call). sum_by by cs) (s.programs ++ s.calls ∷ []) ≡ sum_by (λ (cs : List Call). sum_by by cs) s.programs
  none_counted by =
      let all : sum_by (λ (cs : List Call). sum_by by cs) (s.programs ++ s.calls ∷ []) ≡ sum_by (λ (cs : List Call). sum_by by cs) s.programs + sum_by by s.calls = sum_by_push (λ (cs : List Call). sum_by by cs) s.programs s.calls in
      let none : sum_by by s.calls ≡ 0 = ap (λ (cs : List Call). sum_by by cs) was_open.0 in
      omega (arith, all, none)

  none_posted : SameCounts s.programs (s.programs ++ s.calls ∷ [])
  none_posted = record { posted = λ k. none_counted (posted_by k); received = λ k. none_counted (received_by k) }

  -- what is shown is what was finished
  shown_was : shown s ≡ s.programs
  shown_was = ap (λ p. shown_in p s.programs s.calls s.requests s.receives) outside

  pub thread_stands : length s.lines.threads + 1 ≤ 16 → 2 ≤ place_of s.section → Stands (add_thread line s)
  thread_stands few late = record {
    declared = declared_thread s.lines h.declared (name_in line) few;
    named = all_there_push s.lines (with_thread s.lines (name_in line)) (more_thread s.lines (name_in line)) s.names _ (omega (arith, length_push s.lines.threads (name_in line))) h.named;
    pairs = h.pairs;
    queues = h.queues;
    finished = h.finished;
    opened = (
      subst (λ (cs : List Call). IsProgram (with_thread s.lines (name_in line)) cs) (sym was_open.0) (omega arith, All-nil (IsCall (with_thread s.lines (name_in line)))),
      was_open.1,
      was_open.2,
    );
    paired = omega (arith, h.paired, ap (λ (ps : List (List Call)). length ps) shown_was, length_push s.programs s.calls, length_push s.lines.threads (name_in line));
    held = each_push (AllHeld s.pairs s.queues) s.programs s.calls (subst (AreHeld s.pairs s.queues) shown_was h.held)
        (subst (λ (cs : List Call). All (IsHeld s.pairs s.queues (suc (length s.programs))) cs) (sym was_open.0) (All-nil (IsHeld s.pairs s.queues (suc (length s.programs)))));
    filled = filled_same s.lines s.queues s.programs (s.programs ++ s.calls ∷ []) none_posted (subst (AreFilled s.lines s.queues) shown_was h.filled);
    planned = All-weaker (IsActorOf (length s.lines.threads)) (IsActorOf (length (s.lines.threads ++ name_in line ∷ [])))
        (λ (i : PlanItem) (le : i.actor ≤ length s.lines.threads). omega (arith, le, length_push s.lines.threads (name_in line))) (items_of_plan s.plan) h.planned;
    early = λ h2. absurd (omega (arith, h2, late));
  }

pub end_stands : (s : Said) → s.place ≡ InThread → Stands s → Stands (add_end s)
end_stands s inside h = record {
  declared = h.declared;
  named = h.named;
  pairs = h.pairs;
  queues = h.queues;
  finished = All-push (IsProgram s.lines) s.programs s.calls h.finished was_open.0;
  opened = (refl, was_open.1, was_open.2);
  paired = ap (λ (ps : List (List Call)). length ps) (sym shown_was) ∙ h.paired;
  held = subst (AreHeld s.pairs s.queues) shown_was h.held;
  filled = subst (AreFilled s.lines s.queues) shown_was h.filled;
  planned = h.planned;
  early = λ soon. sym shown_was ∙ h.early soon;
}
  where
    was_open : IsOpen s.lines InThread s.calls s.requests s.receives
    was_open = subst (λ p. IsOpen s.lines p s.calls s.requests s.receives) inside h.opened

    shown_was : shown s ≡ s.programs ++ s.calls ∷ []
    shown_was = ap (λ p. shown_in p s.programs s.calls s.requests s.receives) inside
