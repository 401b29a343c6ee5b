-- A lookup loads no word of a completion queue.
use Rattle.std.proofs.Common.{◌≡◌, ℕ, suc, zero, refl, sym, ap, ◌∙◌, subst, arith, true, List, [], ◌∷◌, slice_get, unwrap_or, is_some, Option, None, Some}
use Rattle.std.proofs.lemmas.Bool.{false≢true}
use Rattle.bus_core.specs.declared.operation.BusEntry.{BusEntry}
use Rattle.bus_core.specs.Operation.{IsLoad}
use Rattle.verbs_types.specs.declared.declaration.Lines.{Lines}
use Rattle.cqe_format.specs.declared.completion.Cqe.{Cqe}
use Rattle.owner_ring.specs.Place.{slot}
use Rattle.owner_ring.proofs.Slots.{touches_slot}
use Rattle.cq_pair.specs.Place.{ring_of}
use Rattle.counted_ring.specs.declared.place.WqPlace.{WqPlace}
use Rattle.counted_ring.specs.Mark.{WqMark}
use Rattle.counted_ring.specs.Place.{IsPlace, is_send, touches as touches_words}
use Rattle.counted_ring.specs.Retirer.{Asked, Retirer, MayCountFor}
use Rattle.counted_ring.specs.RetirerView.{MayServe, lookup_mark}
use Rattle.counted_ring.proofs.Slots.{touches_id, touches_head}
use Rattle.object_places.specs.Objects.{Lives, Mark, OnCompletions, OnSends, OnReceives, Ends, Completions, Sends, touches}
use Rattle.object_places.specs.Places.{completions_of, send_of}
use Rattle.provider_poll.specs.Rule.{PollRule, MayLookUp, MayGoOn, queues_at, queues_of, found_before}
use Rattle.provider_poll.specs.SendQueue.{SendView}
use Rattle.provider_poll.specs.declared.state.PollState.TheVariants.{LookingUp}
use Rattle.actor_rules.specs.Polling.{IsOnPolled, place_in, poll_mark}
use Rattle.provider_poll.specs.Fresh.{poll_place, senders}
use Rattle.actor_rules.specs.Holding.{IsMapped}
use Rattle.actor_rules.proofs.PollPlaces.{places_of, place_of_position, living_by_place}
use Rattle.actor_rules.specs.Completions.{HasPlace}

-- the place of a queue's view
view_place : (d : Lines) (numbers : List ℕ) (rs : List Retirer) (k qp : ℕ) (q : SendView) → slice_get (queues_at (places_of d numbers) rs) k ≡ Some q → slice_get numbers k ≡ Some qp → q.place ≡ send_of d qp
view_place d [] rs zero qp q there at_place = absurd (false≢true (ap is_some there))
view_place d [] rs (suc k) qp q there at_place = absurd (false≢true (ap is_some there))
view_place d (n ∷ ns) [] zero qp q there at_place = absurd (false≢true (ap is_some there))
view_place d (n ∷ ns) [] (suc k) qp q there at_place = absurd (false≢true (ap is_some there))
view_place d (n ∷ ns) (r ∷ rs) zero qp q there at_place = ap (λ o. (unwrap_or o q).place) (sym there) ∙ ap (λ o. send_of d (unwrap_or o n)) at_place
view_place d (n ∷ ns) (r ∷ rs) (suc k) qp q there at_place = view_place d ns rs k qp q there at_place

lookup_inside : (place : WqPlace) → IsPlace place → is_send place ≡ true → (e : BusEntry) (r : Retirer) (counter from : ℕ) (asked : Option Asked) → r.asked ≡ asked → MayServe place r (lookup_mark counter from asked) e → touches_words place e.addr ≡ true
lookup_inside place fine send e r counter from None is may = rw may.load.at_address (touches_id place fine counter)
lookup_inside place fine send e r counter from (Some a) is may =
    let load : IsLoad _ e = subst (λ (o : Option Asked). MayCountFor place o e) is may in
    rw load.at_address (touches_head place fine send a.counter)

module _ (d : Lines) (cq : ℕ) (map_ok : IsMapped d) (lives : Lives d (Completions cq)) (s : PollRule) (e : BusEntry) (index : ℕ) (look : IsLoad (slot (ring_of (completions_of d cq)) index 7) e) (completion : Cqe) (queue : ℕ) where
  in_queue : (qp : ℕ) (mark : WqMark) → HasPlace d cq qp → MayLookUp (poll_place d cq) s completion queue (place_in d cq qp) mark e → touches d (Sends qp) e.addr ≡ true
  in_queue qp mark place may =
      let q = may.serves.served in
      let there : slice_get (queues_of (poll_place d cq) s) (place_in d cq qp) ≡ Some q = ap (λ (k : ℕ). slice_get (queues_of (poll_place d cq) s) k) may.queue_is ∙ may.serves.found in
      let place_is : q.place ≡ send_of d qp = view_place d (senders d cq) s.retirers (place_in d cq qp) qp q there place.there in
      let fine : IsPlace (send_of d qp) = (map_ok.placed d (Sends qp) map_ok.declared (living_by_place d cq qp place).0).fine in
      lookup_inside (send_of d qp) fine refl e q.side completion.counter (found_before q.side) q.side.asked refl
      (subst (λ (p : WqPlace). MayServe p q.side (lookup_mark completion.counter (found_before q.side) q.side.asked) e) place_is (subst (λ (m : WqMark). MayServe q.place q.side m e) may.mark_is may.serves.serves))

  on_ring : touches d (Completions cq) e.addr ≡ true
  on_ring = rw look.at_address (touches_slot (ring_of (completions_of d cq)) index 7 (omega arith))

  pub looks_elsewhere : (max : ℕ) (ends : _) (mark : Mark) → IsOnPolled d cq mark → MayGoOn (LookingUp max ends completion queue) (poll_place d cq) s (poll_mark d cq mark) e → ⊥
  looks_elsewhere max ends (OnCompletions c mark) on may = may
  looks_elsewhere max ends (OnSends qp mark) on may =
      let place = place_of_position d cq qp on in
      let beside = map_ok.apart d (Completions cq) (Sends qp) e.addr map_ok.declared lives (living_by_place d cq qp place).0 (λ same. cc) on_ring in
      false≢true (sym beside ∙ in_queue qp mark place may)
  looks_elsewhere max ends (OnReceives qp mark) on may = may
  looks_elsewhere max ends Ends on may = may
