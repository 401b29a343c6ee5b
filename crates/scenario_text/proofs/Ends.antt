-- What stands at the end of a text can run.
use Rattle.std.proofs.Common.{◌≡◌, ℕ, ◌+◌, ◌-◌, ◌^◌, ◌≤◌, Bool, All, min, List, [], ◌∷◌, length, IsTrue, Option, None, Some, IfSome, slice_get, refl, sym, ap, ◌∙◌, subst, arith}
use Rattle.std.specs.List.{list_all}
use Rattle.std.proofs.lemmas.Bool.{and_from, and_parts, leb-true}
use Rattle.std.proofs.lemmas.List.Elements.{All-weaker}
use Rattle.std.proofs.lemmas.List.Sums.{AllPass-from_list_all}
use Rattle.actor_map.specs.Weight.{weight}
use Rattle.verbs_types.specs.Lines.{is_cq_line, is_declared, is_qp_line}
use Rattle.verbs_types.specs.declared.call.Call.{Call}
use Rattle.verbs_types.specs.declared.declaration.CqLine.{CqLine}
use Rattle.verbs_types.specs.declared.declaration.Lines.{Lines}
use Rattle.verbs_types.specs.declared.declaration.QpLine.{QpLine}
use Rattle.verbs_types.specs.declared.declaration.TheConstants.{FIRST_QP}
use Rattle.scenario_text.specs.Bounds.{passed_after, passed_in_lines, passed_in_run, run_bounds, turns_bound, event_bounds}
use Rattle.scenario_text.specs.Calls.{HasRoom, posts_on, receives_on, polls_on}
use Rattle.scenario_text.specs.Limits.{completing_into, turn_count}
use Rattle.scenario_text.specs.Running.{CanRun, IsLight, end_of_counts}
use Rattle.scenario_text.specs.Sofar.{Said}
use Rattle.scenario_text.specs.Whole.{EndsDeclared, parts_said}
use Rattle.scenario_text.specs.declared.sofar.Place.TheVariants.{Outside}
use Rattle.scenario_text.specs.declared.sofar.QueueUse.{QueueUse}
use Rattle.scenario_text.proofs.Sides.{of_one_thread, posts_held, receives_held, polls_held}
use Rattle.scenario_text.proofs.Standing.{AllHeld, AreDeclared, AreHeld, AreFilled, Kept, Stands, poster_at, receiver_at, poller_at, room_at, shown, shown_in}
use Rattle.scenario_text.proofs.Within.{passed_none, AllWithin}

all_declared : (d : Lines) → AreDeclared d → IsTrue (is_declared d)
all_declared d h = and_from _ _ (and_from _ _ (and_from _ _ (and_from _ _ (and_from _ _ h.few h.turn) h.eqs) h.cqs) h.qps) h.connects

has_room : (d : Lines) (queues : List QueueUse) (programs : List (List Call)) → AreFilled d queues programs → HasRoom d programs
has_room d queues programs filled c below = by (slice_get d.cqs c) (filled c)
  where
    by : (o : Option CqLine) → ((l : CqLine) → o ≡ Some l → room_at queues c + completing_into c FIRST_QP d.qps programs ≡ 2 ^ l.log)
        → IfSome o (λ (l : CqLine). completing_into c FIRST_QP d.qps programs ≤ 2 ^ l.log)
    by None h = tt
    by (Some l) h = omega (arith, h l refl)

-- with no limit passed by the lines, none was passed before
pub unpassed : (s : Said) → passed_in_lines s ≡ None → s.passed ≡ None
unpassed s none =
    let last = passed_none (passed_after s.passed (event_bounds s.lines 0 s.lines.eqs)) (turns_bound s.lines s.plan ∷ []) none in
    (passed_none s.passed (event_bounds s.lines 0 s.lines.eqs) last.0).0

pub ends_declared : (s : Said) → Kept s → EndsDeclared s
ends_declared s kept outside none = let h : Stands s = kept (unpassed s none) in all_declared s.lines h.declared

pub can_run : (s : Said) → s.place ≡ Outside → passed_in_lines s ≡ None → passed_in_run (parts_said s) ≡ None → Kept s → CanRun (parts_said s)
can_run s outside none in_run kept = record {
  declared = all_declared s.lines h.declared;
  threads = h.declared.threads;
  paired = ap (λ (ps : List (List Call)). length ps) (sym all) ∙ h.paired;
  programs = h.finished;
  poster = λ q. of_one_thread (AllHeld s.pairs s.queues) (posts_on q) (poster_at s.pairs (q - FIRST_QP)) (λ thread program. posts_held s.pairs s.queues thread q program) s.programs held;
  receiver = λ q. of_one_thread (AllHeld s.pairs s.queues) (receives_on q) (receiver_at s.pairs (q - FIRST_QP)) (λ thread program. receives_held s.pairs s.queues thread q program) s.programs held;
  poller = λ q. of_one_thread (AllHeld s.pairs s.queues) (polls_on q) (poller_at s.queues q) (λ thread program. polls_held s.pairs s.queues thread q program) s.programs held;
  room = has_room s.lines s.queues s.programs (subst (AreFilled s.lines s.queues) all h.filled);
  plan = (h.planned, turns);
  light = light;
  low = record {
    indices = all_low (λ (l : CqLine). l.start) (is_cq_line s.lines) (λ l right. leb-true l.start (2 ^ 32) (and_parts _ _ right).1) s.lines.cqs h.declared.cqs;
    counts = all_low (λ (l : QpLine). l.start) (is_qp_line s.lines) (λ l right. leb-true l.start (2 ^ 32) (and_parts _ _ right).1) s.lines.qps h.declared.qps;
  };
}
  where
    -- the bound on turns is the last of all
    last : (passed_after s.passed (event_bounds s.lines 0 s.lines.eqs) ≡ None) × AllWithin (turns_bound s.lines s.plan ∷ [])
    last = passed_none (passed_after s.passed (event_bounds s.lines 0 s.lines.eqs)) (turns_bound s.lines s.plan ∷ []) none

    -- the limits of the run
    run : AllWithin (run_bounds (parts_said s))
    run = (passed_none None (run_bounds (parts_said s)) in_run).1

    light : IsLight (parts_said s)
    light = let least : min (weight s.lines s.programs) (2 ^ 64 - 1) ≤ 4194304 = run.2.1 in record { words = run.1; weight = omega (arith, least) }

    all_low : {X : Type 0} (start : X → ℕ) (right : X → Bool) → ((x : X) → IsTrue (right x) → start x ≤ 2 ^ 32) → (xs : List X) → IsTrue (list_all right xs)
        → All (λ (x : X). end_of_counts (parts_said s) (start x) ≤ 2 ^ 33) xs
    all_low {X} start right low xs all =
        All-weaker (λ (x : X). IsTrue (right x)) (λ (x : X). end_of_counts (parts_said s) (start x) ≤ 2 ^ 33) (λ x is. omega (arith, low x is, light.weight)) xs (AllPass-from_list_all right xs all)

    h : Stands s
    h = kept (unpassed s none)

    all : shown s ≡ s.programs
    all = ap (λ p. shown_in p s.programs s.calls s.requests s.receives) outside

    held : AreHeld s.pairs s.queues s.programs
    held = subst (AreHeld s.pairs s.queues) all h.held

    turns : turn_count (length s.lines.threads) s.plan ≤ 1048576
    turns = let least : min (turn_count (length s.lines.threads) s.plan) (2 ^ 64 - 1) ≤ 1048576 = last.1.1 in omega (arith, least)
