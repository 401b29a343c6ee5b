-- Sides by place, of which one goes on.
use Rattle.std.proofs.Common.{◌≡◌, ◌≢◌, inl, inr, ℕ, zero, suc, ◌+◌, ◌-◌, ◌≤◌, ◌<◌, nat_le, arith, refl, sym, ap, ◌∙◌, subst, true, false, Bool, if◌then◌else◌, List, [], ◌∷◌, drop, slice_get, slice_set, get_or, Option, None, Some, is_some}
use Rattle.std.proofs.lemmas.Bool.{cases_Bool, false≢true}
use Rattle.std.proofs.lemmas.Option.{get_or_from_slice_get}
use Rattle.std.proofs.lemmas.Bool.Decides.{nat_tests}
use Rattle.verbs_types.specs.declared.completion.Queue.{Queue}
use Rattle.verbs_types.specs.declared.completion.Queue.TheVariants as queues
use Rattle.verbs_types.specs.declared.declaration.TheConstants.{FIRST_QP}
use Rattle.provider_post.specs.Side.{PostView}
use Rattle.provider_poll.specs.Poll.{PollView}
use Rattle.thread_actor.specs.Sides.{SidesView, joined, side_at, pair_side, post_side, poll_side}

module _ {X : Type 0} where
  pub set_here : (xs : List X) (k : ℕ) (x y : X) → slice_get xs k ≡ Some x → slice_get (slice_set xs k y) k ≡ Some y
  set_here [] zero x y there = absurd (false≢true (ap is_some there))
  set_here [] (suc k) x y there = absurd (false≢true (ap is_some there))
  set_here (z ∷ xs) zero x y there = refl
  set_here (z ∷ xs) (suc k) x y there = set_here xs k x y there

  pub set_there : (xs : List X) (k j : ℕ) (y : X) → j ≢ k → slice_get (slice_set xs k y) j ≡ slice_get xs j
  set_there [] k j y differ = refl
  set_there (z ∷ xs) zero zero y differ = absurd (differ refl)
  set_there (z ∷ xs) zero (suc j) y differ = refl
  set_there (z ∷ xs) (suc k) zero y differ = refl
  set_there (z ∷ xs) (suc k) (suc j) y differ = set_there xs k j y (λ same. differ (ap suc same))

  -- what is left from an item on
  pub drop_there : (xs : List X) (k : ℕ) (x : X) → slice_get xs k ≡ Some x → drop k xs ≡ x ∷ drop (k + 1) xs
  drop_there [] zero x there = absurd (false≢true (ap is_some there))
  drop_there [] (suc k) x there = absurd (false≢true (ap is_some there))
  drop_there (z ∷ xs) zero x there = ap (λ (o : Option X). unwrapped o ∷ xs) there where
    unwrapped : Option X → X
    unwrapped None = z
    unwrapped (Some y) = y
  drop_there (z ∷ xs) (suc k) x there = let e : suc (k + 1) ≡ suc k + 1 = omega arith in drop_there xs k x there ∙ ap (λ (n : ℕ). x ∷ drop n (z ∷ xs)) e

module _ {S : Type 0} (sides : List (Option S)) where
  pub pair_is : (qp : ℕ) (side : S) → FIRST_QP ≤ qp → slice_get sides (qp - FIRST_QP) ≡ Some (Some side) → pair_side sides qp ≡ Some side
  pair_is qp side least found =
      let low : nat_le FIRST_QP qp ≡ true = grind (arith, least) in
      ap (λ (b : Bool). if b then side_at sides (qp - FIRST_QP) else None) low ∙ ap joined found

  pub pair_there : (qp other : ℕ) (after : S) → FIRST_QP ≤ qp → other ≢ qp → pair_side (slice_set sides (qp - FIRST_QP) (Some after)) other ≡ pair_side sides other
  pair_there qp other after least differ = elim (cases_Bool (nat_le FIRST_QP other)) [
    | inl low ↦
        let from : FIRST_QP ≤ other = grind (arith, low) in
        let apart : other - FIRST_QP ≢ qp - FIRST_QP = λ same. differ (omega (arith, least, from, same)) in
        ap (λ (o : Option (Option S)). if nat_le FIRST_QP other then joined o else None) (set_there sides (qp - FIRST_QP) (other - FIRST_QP) (Some after) apart)
    | inr high ↦ rw high refl
  ]

-- one side of a work queue goes on, and all others are as before
pub record MovesPost (old new : SidesView) (queue : Queue) (before after : PostView) : Type 0 where
  pub was : post_side old queue ≡ Some before
  pub now : post_side new queue ≡ Some after
  pub others : (other : Queue) → other ≢ queue → post_side new other ≡ post_side old other
  pub polls : (cq : ℕ) → poll_side new cq ≡ poll_side old cq

pub record MovesPoll (old new : SidesView) (cq : ℕ) (before after : PollView) : Type 0 where
  pub was : poll_side old cq ≡ Some before
  pub now : poll_side new cq ≡ Some after
  pub others : (other : ℕ) → other ≢ cq → poll_side new other ≡ poll_side old other
  pub posts : (queue : Queue) → post_side new queue ≡ post_side old queue

abbrev pub with_sends : SidesView → List (Option PostView) → SidesView
with_sends s sends = record { sends = sends; receives = s.receives; polls = s.polls }

abbrev pub with_receives : SidesView → List (Option PostView) → SidesView
with_receives s receives = record { sends = s.sends; receives = receives; polls = s.polls }

abbrev pub with_polls : SidesView → List (Option PollView) → SidesView
with_polls s polls = record { sends = s.sends; receives = s.receives; polls = polls }

module _ (s : SidesView) (qp : ℕ) (before after : PostView) (least : FIRST_QP ≤ qp) where
  pub moves_send : slice_get s.sends (qp - FIRST_QP) ≡ Some (Some before) → MovesPost s (with_sends s (slice_set s.sends (qp - FIRST_QP) (Some after))) (queues.Send qp) before after
  moves_send found = record {
    was = pair_is s.sends qp before least found;
    now = pair_is (slice_set s.sends (qp - FIRST_QP) (Some after)) qp after least (set_here s.sends (qp - FIRST_QP) (Some before) (Some after) found);
    others = others;
    polls = λ cq. refl;
  } where
    others : (other : Queue) → other ≢ queues.Send qp → post_side (with_sends s (slice_set s.sends (qp - FIRST_QP) (Some after))) other ≡ post_side s other
    others (queues.Send n) differ = pair_there s.sends qp n after least (λ same. differ (ap (λ (k : ℕ). queues.Send k) same))
    others (queues.Recv n) differ = refl
    others (queues.Shared n) differ = refl

  pub moves_receive : slice_get s.receives (qp - FIRST_QP) ≡ Some (Some before) → MovesPost s (with_receives s (slice_set s.receives (qp - FIRST_QP) (Some after))) (queues.Recv qp) before after
  moves_receive found = record {
    was = pair_is s.receives qp before least found;
    now = pair_is (slice_set s.receives (qp - FIRST_QP) (Some after)) qp after least (set_here s.receives (qp - FIRST_QP) (Some before) (Some after) found);
    others = others;
    polls = λ cq. refl;
  } where
    others : (other : Queue) → other ≢ queues.Recv qp → post_side (with_receives s (slice_set s.receives (qp - FIRST_QP) (Some after))) other ≡ post_side s other
    others (queues.Recv n) differ = pair_there s.receives qp n after least (λ same. differ (ap (λ (k : ℕ). queues.Recv k) same))
    others (queues.Send n) differ = refl
    others (queues.Shared n) differ = refl

pub moves_poll : (s : SidesView) (cq : ℕ) (before after : PollView) → slice_get s.polls cq ≡ Some (Some before) → MovesPoll s (with_polls s (slice_set s.polls cq (Some after))) cq before after
moves_poll s cq before after found = record {
  was = ap joined found;
  now = ap joined (set_here s.polls cq (Some before) (Some after) found);
  others = λ other differ. ap joined (set_there s.polls cq other (Some after) differ);
  posts = posts;
} where
  posts : (queue : Queue) → post_side (with_polls s (slice_set s.polls cq (Some after))) queue ≡ post_side s queue
  posts (queues.Send n) = refl
  posts (queues.Recv n) = refl
  posts (queues.Shared n) = refl

module _ {S : Type 0} (sides : List (Option S)) (place : ℕ) (side : S) where
  -- the side that was found is the one at its place
  pub found_here : (other : S) (d : Option S) → slice_get sides place ≡ Some (Some side) → get_or sides place d ≡ Some other → slice_get sides place ≡ Some (Some other)
  found_here other d there is = there ∙ ap (λ (o : Option S). Some o) (sym (get_or_from_slice_get sides place (Some side) d there) ∙ is)

  pub found_none : (d : Option S) → slice_get sides place ≡ Some (Some side) → get_or sides place d ≡ None → ⊥
  found_none d there is = false≢true (ap is_some (sym is ∙ get_or_from_slice_get sides place (Some side) d there))
