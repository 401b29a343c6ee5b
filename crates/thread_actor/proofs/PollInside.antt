-- The words of a poll's operations are words of objects.
use Rattle.std.proofs.Common.{◌≡◌, ℕ, zero, suc, ◌+◌, ◌-◌, ◌≤◌, ◌<◌, nat_le, nat_lt, arith, refl, sym, ap, ◌∙◌, subst, true, false, Bool, List, [], ◌∷◌, length, map, filter, slice_get, Option, None, Some, is_some, IsTrue}
use Rattle.std.specs.List.{range_with_len}
use Rattle.std.proofs.lemmas.Bool.{false≢true}
use Rattle.std.proofs.lemmas.Bool.Decides.{nat_tests}
use Rattle.bus_core.specs.declared.operation.BusEntry.{BusEntry}
use Rattle.bus_core.specs.declared.turn.Step.{Step}
use Rattle.verbs_types.specs.declared.completion.Completion.{Completion}
use Rattle.verbs_types.specs.declared.declaration.Lines.{Lines}
use Rattle.verbs_types.specs.declared.declaration.TheConstants.{FIRST_QP}
use Rattle.verbs_types.specs.Lines.{is_declared, is_among}
use Rattle.actor_map.specs.Sizes.{words_of}
use Rattle.owner_ring.specs.Place as ring
use Rattle.cq_pair.specs.declared.place.CqPlace.{CqPlace}
use Rattle.cq_pair.specs.Place.{ring_of}
use Rattle.counted_ring.specs.declared.place.WqPlace.{WqPlace}
use Rattle.counted_ring.specs.Place as counted
use Rattle.object_places.specs.Apart.{ArePlaced}
use Rattle.object_places.specs.Objects.{Completions, Sends, Lives}
use Rattle.object_places.specs.Places.{completions_of, send_of}
use Rattle.provider_poll.specs.declared.answer.PollAnswer.{PollAnswer}
use Rattle.provider_poll.specs.declared.state.End.{End}
use Rattle.provider_poll.specs.declared.state.PollState.{PollState}
use Rattle.provider_poll.specs.declared.state.PollState.TheVariants as states
use Rattle.provider_poll.specs.declared.poll_step.PollStep.{PollStep}
use Rattle.provider_poll.specs.FollowsRule.{IsInside, OnRing, OnSends, place_of, queue_place}
use Rattle.provider_poll.specs.Fresh.{poll_place, sender_place, senders, completes_to}
use Rattle.provider_poll.specs.Poll.{PollView}
use Rattle.provider_poll.specs.Rule.{PollPlace, QueuePlace}
use Rattle.provider_poll.specs.SendQueue.{SendView}
use Rattle.thread_actor.proofs.Senders.{from_least, below_most}

-- the place of a queue of the side is that of a queue pair
record IsAt (d : Lines) (q : SendView) : Type 0 where
  qp : ℕ
  place : q.place ≡ send_of d qp
  least : FIRST_QP ≤ qp
  most : qp < FIRST_QP + length d.qps

place_at : (d : Lines) (ns : List ℕ) (qs : List SendView) (i : ℕ) (q : SendView) → map queue_place qs ≡ map (sender_place d) ns → slice_get qs i ≡ Some q → (n : ℕ) × (slice_get ns i ≡ Some n) × (q.place ≡ send_of d n)
place_at d ns [] zero q same found = absurd (false≢true (ap is_some found))
place_at d ns [] (suc i) q same found = absurd (false≢true (ap is_some found))
place_at d [] (p ∷ qs) i q same found = absurd cc
place_at d (n ∷ ns) (p ∷ qs) zero q same found = (n, refl, sym (ap view found) ∙ ap first same) where
  view : Option SendView → WqPlace
  view None = p.place
  view (Some r) = r.place

  first : List QueuePlace → WqPlace
  first [] = p.place
  first (r ∷ rs) = r.place
place_at d (n ∷ ns) (p ∷ qs) (suc i) q same found = place_at d ns qs i q (ap tail same) found where
  tail : List QueuePlace → List QueuePlace
  tail [] = []
  tail (r ∷ rs) = rs

module _ (d : Lines) (cq : ℕ) (placed : ArePlaced) (declared : IsTrue (is_declared d)) (lives : Lives d (Completions cq)) (side : PollView) (is : place_of side ≡ poll_place d cq) where
  is_at : (i : ℕ) (q : SendView) → slice_get side.queues i ≡ Some q → IsAt d q
  is_at i q found =
      let n = place_at d (senders d cq) side.queues i q (ap (λ (p : PollPlace). p.queues) is) found in
      record {
        qp = n.0;
        place = n.2;
        least = from_least (completes_to d cq) FIRST_QP (length d.qps) i n.0 n.1;
        most = below_most (completes_to d cq) FIRST_QP (length d.qps) i n.0 n.1;
      }

  in_queue : (q : SendView) (a : ℕ) → IsAt d q → counted.touches q.place a ≡ true → a < words_of d
  in_queue q a spot touched =
      let low = spot.least in
      let high = spot.most in
      let from : nat_le FIRST_QP spot.qp ≡ true = grind (arith, nat_tests, low) in
      let under : spot.qp - FIRST_QP < length d.qps = omega (arith, low, high) in
      let to : nat_lt (spot.qp - FIRST_QP) (length d.qps) ≡ true = grind (arith, nat_tests, under) in
      let there : IsTrue (is_among FIRST_QP (length d.qps) spot.qp) = rw from (rw to refl) in
      ((placed d (Sends spot.qp) declared there).inside a (subst (λ (p : WqPlace). counted.touches p a ≡ true) spot.place touched)).1

  in_ring : (a : ℕ) → ring.touches (ring_of side.host.place) a ≡ true → a < words_of d
  in_ring a touched = ((placed d (Completions cq) declared lives).inside a (subst (λ (p : CqPlace). ring.touches (ring_of p) a ≡ true) (ap (λ (p : PollPlace). p.cq) is) touched)).1

  -- each word of the side is one of the declared objects'
  pub poll_inside : (address : ℕ) → IsInside side address → address < words_of d
  poll_inside address (OnRing touched) = in_ring address touched
  poll_inside address (OnSends queue q found touched) = in_queue q address (is_at queue q found) touched
