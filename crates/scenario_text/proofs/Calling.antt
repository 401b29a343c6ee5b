-- The last thread's calls with one more.
use Rattle.std.proofs.Common.{◌≡◌, ℕ, suc, ◌+◌, ◌==◌, Bool, true, false, cond, List, [], ◌∷◌, ◌++◌, length, IsTrue, Option, None, Some, refl, sym, ap, ◌∙◌, arith}
use Rattle.std.proofs.lemmas.Bool.{eqb-true}
use Rattle.std.proofs.lemmas.List.{length_push}
use Rattle.std.proofs.lemmas.List.Elements.{All-push, All-weaker}
use Rattle.std.proofs.lemmas.Option.{none-some, same_Some}
use Rattle.verbs_types.specs.declared.call.Call.{Call}
use Rattle.verbs_types.specs.declared.call.Call.TheVariants.{Post, Recv}
use Rattle.verbs_types.specs.declared.request.Receive.{Receive}
use Rattle.verbs_types.specs.declared.request.Request.{Request}
use Rattle.scenario_text.specs.Limits.{posted_by, posted_on, received_by, received_on}
use Rattle.scenario_text.specs.Rules.{is_this}
use Rattle.scenario_text.specs.Sofar.{Said}
use Rattle.scenario_text.specs.declared.sofar.PairUse.{PairUse}
use Rattle.scenario_text.specs.declared.sofar.QueueUse.{QueueUse}
use Rattle.scenario_text.proofs.Growing.{each_push, each_front, each_last, each_weaker}
use Rattle.scenario_text.proofs.Rooms.{SameCounts, counted_push}
use Rattle.scenario_text.proofs.Sides.{KeepSides, held_kept}
use Rattle.scenario_text.proofs.Standing.{IsHeld, AllHeld, AreHeld}

-- a side that a line may use is free or this thread's
pub own_side : (s : Said) (side : Option ℕ) → IsTrue (is_this s side) → (thread : ℕ) → side ≡ Some thread → thread ≡ length s.lines.threads
own_side s None h thread e = absurd (none-some thread e)
own_side s (Some n) h thread e = sym (same_Some n thread e) ∙ eqb-true n (length s.lines.threads) h

module _ (pairs pairs_now : List PairUse) (queues queues_now : List QueueUse) (keep : KeepSides pairs pairs_now queues queues_now) where
  all_held_kept : (thread : ℕ) (program : List Call) → AllHeld pairs queues thread program → AllHeld pairs_now queues_now thread program
  all_held_kept thread program all = All-weaker (IsHeld pairs queues thread) (IsHeld pairs_now queues_now thread) (held_kept pairs pairs_now queues queues_now keep thread) program all

  pub held_more : (front : List (List Call)) (program : List Call) (call : Call) → IsHeld pairs_now queues_now (suc (length front)) call → AreHeld pairs queues (front ++ program ∷ [])
      → AreHeld pairs_now queues_now (front ++ (program ++ call ∷ []) ∷ [])
  held_more front program call held all =
      each_push (AllHeld pairs_now queues_now) front (program ++ call ∷ [])
      (each_weaker (AllHeld pairs queues) (AllHeld pairs_now queues_now) all_held_kept front (each_front (AllHeld pairs queues) front program all))
      (All-push (IsHeld pairs_now queues_now (suc (length front))) program call (all_held_kept (suc (length front)) program (each_last (AllHeld pairs queues) front program all)) held)

-- a last call of the same side in place of another
pub held_longer : (pairs : List PairUse) (queues queues_now : List QueueUse) → KeepSides pairs pairs queues queues_now → (front : List (List Call)) (program : List Call) (before now : Call)
    → ((thread : ℕ) → IsHeld pairs queues_now thread before → IsHeld pairs queues_now thread now) → AreHeld pairs queues (front ++ (program ++ before ∷ []) ∷ [])
    → AreHeld pairs queues_now (front ++ (program ++ now ∷ []) ∷ [])
held_longer pairs queues queues_now keep front program before now same all =
    let last : AllHeld pairs queues (suc (length front)) (program ++ before ∷ []) = each_last (AllHeld pairs queues) front (program ++ before ∷ []) all in
    let shorter : AreHeld pairs queues (front ++ program ∷ []) =
    each_push (AllHeld pairs queues) front program (each_front (AllHeld pairs queues) front (program ++ before ∷ []) all)
    (each_front (λ k (c : Call). IsHeld pairs queues (suc (length front)) c) program before last)
    in
    let call : IsHeld pairs queues (suc (length front)) before = each_last (λ k (c : Call). IsHeld pairs queues (suc (length front)) c) program before last in
    held_more pairs pairs queues queues_now keep front program now (same (suc (length front)) (held_kept pairs pairs queues queues_now keep (suc (length front)) before call)) shorter

-- a call without requests and receives posts nothing
pub posted_none : (front : List (List Call)) (program : List Call) (call : Call) → ((k : ℕ) → posted_by k call ≡ 0) → ((k : ℕ) → received_by k call ≡ 0)
    → SameCounts (front ++ program ∷ []) (front ++ (program ++ call ∷ []) ∷ [])
posted_none front program call no_post no_receive = record {
  posted = λ k. omega (arith, counted_push (posted_by k) front program call, no_post k);
  received = λ k. omega (arith, counted_push (received_by k) front program call, no_receive k);
}

-- one more item of a list
longer_by_one : {X : Type 0} (on : Bool) (xs : List X) (x : X) → cond on (length (xs ++ x ∷ [])) 0 ≡ cond on (length xs) 0 + cond on 1 0
longer_by_one true xs x = length_push xs x
longer_by_one false xs x = omega arith

module _ (front : List (List Call)) (program : List Call) (qp k : ℕ) where
  pub posted_one : (requests : List Request) (r : Request)
      → posted_on k (front ++ (program ++ Post qp (requests ++ r ∷ []) ∷ []) ∷ []) ≡ posted_on k (front ++ (program ++ Post qp requests ∷ []) ∷ []) + cond (qp == k) 1 0
  posted_one requests r =
      omega (arith, counted_push (posted_by k) front program (Post qp (requests ++ r ∷ [])), counted_push (posted_by k) front program (Post qp requests), longer_by_one (qp == k) requests r)

  pub posted_rest : (requests : List Request) (r : Request)
      → received_on k (front ++ (program ++ Post qp (requests ++ r ∷ []) ∷ []) ∷ []) ≡ received_on k (front ++ (program ++ Post qp requests ∷ []) ∷ [])
  posted_rest requests r = omega (arith, counted_push (received_by k) front program (Post qp (requests ++ r ∷ [])), counted_push (received_by k) front program (Post qp requests))

  pub received_one : (receives : List Receive) (r : Receive)
      → received_on k (front ++ (program ++ Recv qp (receives ++ r ∷ []) ∷ []) ∷ []) ≡ received_on k (front ++ (program ++ Recv qp receives ∷ []) ∷ []) + cond (qp == k) 1 0
  received_one receives r =
      omega (arith, counted_push (received_by k) front program (Recv qp (receives ++ r ∷ [])), counted_push (received_by k) front program (Recv qp receives), longer_by_one (qp == k) receives r)

  pub received_rest : (receives : List Receive) (r : Receive)
      → posted_on k (front ++ (program ++ Recv qp (receives ++ r ∷ []) ∷ []) ∷ []) ≡ posted_on k (front ++ (program ++ Recv qp receives ∷ []) ∷ [])
  received_rest receives r = omega (arith, counted_push (posted_by k) front program (Recv qp (receives ++ r ∷ [])), counted_push (posted_by k) front program (Recv qp receives))

-- a list without items
pub none_on : {X : Type 0} (on : Bool) (xs : List X) → xs ≡ [] → cond on (length xs) 0 ≡ 0
none_on {X} on xs none = ap (λ (ys : List X). cond on (length ys) 0) none ∙ by on
  where
    by : (on : Bool) → cond {A = ℕ} on 0 0 ≡ 0
    by true = refl
    by false = refl
