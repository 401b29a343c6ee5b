-- The sides of queues, each of one thread.
use Rattle.std.proofs.Common.{◌≡◌, ℕ, suc, ◌-◌, ◌<◌, Bool, true, false, List, [], ◌∷◌, length, get_or, All, IsTrue, Option, Some, slice_get, unwrap_or, ◌⊎◌, inl, inr, ⊎_elim, true≢false, refl, sym, ap, ◌∙◌, subst, arith}
use Rattle.std.specs.List.{list_any}
use Rattle.std.proofs.lemmas.Bool.{or_cases, cases_eq, eqb-true}
use Rattle.std.proofs.lemmas.List.Elements.{All-head, All-tail}
use Rattle.std.proofs.lemmas.Option.{same_Some}
use Rattle.verbs_types.specs.declared.call.Call.{Call}
use Rattle.verbs_types.specs.declared.call.Call.TheVariants.{Post, Recv, Poll, Drain}
use Rattle.verbs_types.specs.declared.declaration.TheConstants.{FIRST_QP}
use Rattle.scenario_text.specs.AfterObjects.{change}
use Rattle.scenario_text.specs.Calls.{IsOfOneThread, posts_on, receives_on, polls_on}
use Rattle.scenario_text.specs.declared.sofar.PairUse.{PairUse}
use Rattle.scenario_text.specs.declared.sofar.QueueUse.{QueueUse}
use Rattle.scenario_text.proofs.Growing.{change_here, change_other}
use Rattle.scenario_text.proofs.Standing.{IsHeld, Each, poster_at, receiver_at, poller_at}

-- a side that is free, or this thread's, becomes this thread's; all others stay
module _ {X : Type 0} (by : X → X) (none : X) (side : X → Option ℕ) (this : ℕ) (taken : (x : X) → side (by x) ≡ Some this) (xs : List X) (n : ℕ) (below : n < length xs) where
  pub side_here : side (unwrap_or (slice_get (change by xs n) n) none) ≡ Some this
  side_here = ap side (change_here by none xs n below) ∙ taken (unwrap_or (slice_get xs n) none)

  pub side_kept : ((thread : ℕ) → side (unwrap_or (slice_get xs n) none) ≡ Some thread → thread ≡ this) → (k thread : ℕ) → side (unwrap_or (slice_get xs k) none) ≡ Some thread
      → side (unwrap_or (slice_get (change by xs n) k) none) ≡ Some thread
  side_kept own k thread h = tested (cases_eq k n)
    where
      tested : (k ≡ n) ⊎ (k ≡ n → ⊥) → side (unwrap_or (slice_get (change by xs n) k) none) ≡ Some thread
      tested (inl same) =
          let mine : thread ≡ this = own thread (subst (λ j. side (unwrap_or (slice_get xs j) none) ≡ Some thread) same h) in
          ap (λ j. side (unwrap_or (slice_get (change by xs n) j) none)) same ∙ side_here ∙ ap Some (sym mine)
      tested (inr other) = ap side (change_other by none xs n k other) ∙ h

-- no side is lost
pub record KeepSides (pairs pairs_now : List PairUse) (queues queues_now : List QueueUse) : Type 0 where
  pub posters : (k thread : ℕ) → poster_at pairs k ≡ Some thread → poster_at pairs_now k ≡ Some thread
  pub receivers : (k thread : ℕ) → receiver_at pairs k ≡ Some thread → receiver_at pairs_now k ≡ Some thread
  pub pollers : (k thread : ℕ) → poller_at queues k ≡ Some thread → poller_at queues_now k ≡ Some thread

pub held_kept : (pairs pairs_now : List PairUse) (queues queues_now : List QueueUse) → KeepSides pairs pairs_now queues queues_now → (thread : ℕ) (call : Call) → IsHeld pairs queues thread call
    → IsHeld pairs_now queues_now thread call
held_kept pairs pairs_now queues queues_now keep thread (Post qp requests) h = keep.posters (qp - FIRST_QP) thread h
held_kept pairs pairs_now queues queues_now keep thread (Recv qp receives) h = keep.receivers (qp - FIRST_QP) thread h
held_kept pairs pairs_now queues queues_now keep thread (Poll cq most) h = keep.pollers cq thread h
held_kept pairs pairs_now queues queues_now keep thread (Drain cq count) h = keep.pollers cq thread h

-- whoever has such a call has the side
module _ (pairs : List PairUse) (queues : List QueueUse) (thread : ℕ) where
  pub posts_held : (q : ℕ) (calls : List Call) → All (IsHeld pairs queues thread) calls → IsTrue (list_any (posts_on q) calls) → poster_at pairs (q - FIRST_QP) ≡ Some thread
  posts_held q [] all h = absurd (true≢false (sym h))
  posts_held q (c ∷ cs) all h =
      ⊎_elim (here c (All-head (IsHeld pairs queues thread) c cs all)) (posts_held q cs (All-tail (IsHeld pairs queues thread) c cs all)) (or_cases (posts_on q c) (list_any (posts_on q) cs) h)
    where
      here : (call : Call) → IsHeld pairs queues thread call → IsTrue (posts_on q call) → poster_at pairs (q - FIRST_QP) ≡ Some thread
      here (Post qp requests) held on = ap (λ k. poster_at pairs (k - FIRST_QP)) (sym (eqb-true qp q on)) ∙ held
      here (Recv qp receives) held on = absurd (true≢false (sym on))
      here (Poll cq most) held on = absurd (true≢false (sym on))
      here (Drain cq count) held on = absurd (true≢false (sym on))

  pub receives_held : (q : ℕ) (calls : List Call) → All (IsHeld pairs queues thread) calls → IsTrue (list_any (receives_on q) calls) → receiver_at pairs (q - FIRST_QP) ≡ Some thread
  receives_held q [] all h = absurd (true≢false (sym h))
  receives_held q (c ∷ cs) all h =
      ⊎_elim (here c (All-head (IsHeld pairs queues thread) c cs all)) (receives_held q cs (All-tail (IsHeld pairs queues thread) c cs all)) (or_cases (receives_on q c) (list_any (receives_on q) cs) h)
    where
      here : (call : Call) → IsHeld pairs queues thread call → IsTrue (receives_on q call) → receiver_at pairs (q - FIRST_QP) ≡ Some thread
      here (Post qp requests) held on = absurd (true≢false (sym on))
      here (Recv qp receives) held on = ap (λ k. receiver_at pairs (k - FIRST_QP)) (sym (eqb-true qp q on)) ∙ held
      here (Poll cq most) held on = absurd (true≢false (sym on))
      here (Drain cq count) held on = absurd (true≢false (sym on))

  pub polls_held : (q : ℕ) (calls : List Call) → All (IsHeld pairs queues thread) calls → IsTrue (list_any (polls_on q) calls) → poller_at queues q ≡ Some thread
  polls_held q [] all h = absurd (true≢false (sym h))
  polls_held q (c ∷ cs) all h =
      ⊎_elim (here c (All-head (IsHeld pairs queues thread) c cs all)) (polls_held q cs (All-tail (IsHeld pairs queues thread) c cs all)) (or_cases (polls_on q c) (list_any (polls_on q) cs) h)
    where
      here : (call : Call) → IsHeld pairs queues thread call → IsTrue (polls_on q call) → poller_at queues q ≡ Some thread
      here (Post qp requests) held on = absurd (true≢false (sym on))
      here (Recv qp receives) held on = absurd (true≢false (sym on))
      here (Poll cq most) held on = ap (poller_at queues) (sym (eqb-true cq q on)) ∙ held
      here (Drain cq count) held on = ap (poller_at queues) (sym (eqb-true cq q on)) ∙ held

-- of two threads one has it
pub of_one_thread : (P : ℕ → List Call → Type 0) (uses : Call → Bool) (side : Option ℕ) → ((thread : ℕ) (calls : List Call) → P thread calls → IsTrue (list_any uses calls) → side ≡ Some thread)
    → (programs : List (List Call)) → Each P programs → IsOfOneThread uses programs
of_one_thread P uses side has programs each i j d before below = tested (list_any uses (get_or programs i d)) (list_any uses (get_or programs j d)) refl refl
  where
    tested : (one other : Bool) → list_any uses (get_or programs i d) ≡ one → list_any uses (get_or programs j d) ≡ other → (one ≡ false) ⊎ (other ≡ false)
    tested false other e f = inl refl
    tested true false e f = inr refl
    tested true true e f =
        let first : side ≡ Some (suc i) = has (suc i) _ (each i d (omega (arith, before, below))) e in
        let second : side ≡ Some (suc j) = has (suc j) _ (each j d below) f in
        let same : suc i ≡ suc j = same_Some _ _ (sym first ∙ second) in
        absurd (omega (arith, same, before))
