-- A load of an owner word by a poll of one completion is a look, and one that finds the entry owned begins to take it.
use Rattle.std.proofs.Common.{◌≡◌, ℕ, ◌+◌, ◌*◌, ◌≤◌, sym, ◌∙◌, subst, arith, true, List, [], ◌∷◌, length, Option}
use Rattle.bus_core.specs.declared.operation.BusEntry.{BusEntry}
use Rattle.bus_core.specs.declared.turn.Step.TheVariants.{More}
use Rattle.bus_core.specs.Operation.{IsLoad, IsStore, loaded}
use Rattle.verbs_types.specs.declared.completion.Completion.{Completion}
use Rattle.cqe_format.specs.declared.completion.Cqe.{Cqe}
use Rattle.owner_ring.specs.Consumer.{Consumer, Waiting, Reading, next_index}
use Rattle.owner_ring.specs.Place.{slot, is_owned}
use Rattle.cq_pair.specs.Host.{MayPoll}
use Rattle.cq_pair.specs.Mark.{QueueMark, Publish, Lose, Look, Read, Take, Acknowledge, Foreign}
use Rattle.cq_pair.specs.Place.{ring_of}
use Rattle.counted_ring.specs.Mark.{WqMark}
use Rattle.counted_ring.specs.Retirer.{Retirer}
use Rattle.counted_ring.specs.RetirerView.{MayServe}
use Rattle.provider_poll.specs.declared.state.End.{End}
use Rattle.provider_poll.specs.declared.state.PollState.{PollState}
use Rattle.provider_poll.specs.declared.state.PollState.TheVariants as states
use Rattle.provider_poll.specs.Rule.{PollPlace, PollRule, PollMark, OnHost, OnQueue, IsNextOf, MayGoOn, MayRetireFirst}
use Rattle.provider_poll.specs.RuleStep.{poll_side_step, after_poll_side}
use Rattle.provider_poll.proofs.LeftLoads.{IsHost, IsUnderWay}
use Rattle.operation_bounds.proofs.Takes.{IsTaking, look_begins}

-- it is no load of a word before the last one
other_word : (base a b k : ℕ) → k ≤ 6 → base + 8 * a + 7 ≡ base + 8 * b + k → ⊥
other_word base a b k few same = omega (arith, few, same)

-- nor a store
no_store : (a b value : ℕ) (e : BusEntry) → IsLoad a e → IsStore b value e → ⊥
no_store a b value e load store = let same = sym load.op ∙ store.op in cc

module _ (place : PollPlace) (given : ℕ) (seen : ℕ) (rs : List Retirer) (e : BusEntry) where
  abbrev pub at_side : Consumer → PollState → PollRule
  at_side c state = record { host = c; seen = seen; retirers = rs; state = state }

  abbrev pub Begins : Consumer → PollState → PollMark → Type 0
  Begins c state mark = IsTaking (after_poll_side place (at_side c state) mark e).host (after_poll_side place (at_side c state) mark e).state × ((poll_side_step place (at_side c state) mark e).answer ≡ More)

  no_read : (acked next index last : ℕ) (words : List ℕ) (mark : QueueMark) → length words ≤ 6 → IsLoad (slot (ring_of place.cq) next 7) e → MayPoll place.cq (Reading acked next index last words) mark e → IsNextOf (Reading acked next index last words) mark → ⊥
  no_read acked next index last words (Publish completion) few look may is = is
  no_read acked next index last words Lose few look may is = is
  no_read acked next index last words (Look i) few look may is = is
  no_read acked next index last words Read few look may is = other_word _ _ _ (length words) few (sym look.at_address ∙ may.ring.at_address)
  no_read acked next index last words (Take completion) few look may is = other_word _ _ _ (length words) few (sym look.at_address ∙ may.ring.at_address)
  no_read acked next index last words (Acknowledge i) few look may is = is
  no_read acked next index last words Foreign few look may is = is

  no_retire : (address taken : ℕ) (empty : Option ℕ) (c : Consumer) (ends : List End) (index : ℕ) (mark : WqMark) → IsLoad address e → MayRetireFirst place (at_side c (states.Retiring taken empty (record { items = ends }))) ends index mark e → ⊥
  no_retire address taken empty c [] index mark look may = may
  no_retire address taken empty c (end ∷ ends) index mark look may =
      let q = may.serves.served in
      let retires = subst (λ (m : WqMark). MayServe q.place q.side m e) may.mark_is may.serves.serves in
      no_store address q.place.tail end.end e look retires.store

  pub look_takes : (c : Consumer) (state : PollState) (mark : PollMark) → IsHost c → IsUnderWay 1 given state → MayGoOn state place (at_side c state) mark e → IsLoad (slot (ring_of place.cq) (next_index c) 7) e → is_owned (ring_of place.cq) (next_index c) (loaded e) ≡ true
      → ((max : ℕ) (ends : _) (completion : Cqe) (queue : ℕ) → MayGoOn (states.LookingUp max ends completion queue) place (at_side c state) mark e → ⊥) → Begins c state mark
  look_takes c states.Idle mark fine h may look owned elsewhere = absurd h
  look_takes (Waiting acked next) (states.Polling max ends) (OnHost mark) fine h may look owned elsewhere = subst (λ (m : QueueMark). Begins (Waiting acked next) (states.Polling max ends) (OnHost m)) (sym may.next) (look_begins place given seen rs max ends.items h e acked next owned)
  look_takes (Reading acked next index last words) (states.Polling max ends) (OnHost mark) fine h may look owned elsewhere = absurd (no_read acked next index last words mark fine look may.polls may.next)
  look_takes c (states.Polling max ends) (OnQueue index mark) fine h may look owned elsewhere = absurd may
  look_takes c (states.LookingUp max ends completion queue) mark fine h may look owned elsewhere = absurd (elsewhere max ends completion queue may)
  look_takes c (states.Retiring taken empty left) (OnHost mark) fine h may look owned elsewhere = absurd may
  look_takes c (states.Retiring taken empty left) (OnQueue index mark) fine h may look owned elsewhere = absurd (no_retire _ taken empty c left.items index mark look may)
  look_takes c (states.Acking taken empty) (OnHost mark) fine h may look owned elsewhere =
      let acks = subst (λ (m : QueueMark). MayPoll place.cq c m e) may.index may.polls in
      absurd (no_store _ _ _ e look acks.ring.store)
  look_takes c (states.Acking taken empty) (OnQueue index mark) fine h may look owned elsewhere = absurd may
