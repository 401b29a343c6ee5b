-- An operation of a poll loads, or it stores and says so.
use Rattle.std.proofs.Common.{◌≡◌, ◌≢◌, ◌⊎◌, ℕ, inl, inr, refl, sym, subst, true, if◌then◌else◌, List, [], ◌∷◌, is_some, Option, None, Some}
use Rattle.bus_core.specs.declared.operation.BusEntry.{BusEntry}
use Rattle.bus_core.specs.declared.operation.BusOp.TheVariants.{Load}
use Rattle.bus_core.specs.Mark.{Marked}
use Rattle.verbs_types.specs.declared.declaration.Lines.{Lines}
use Rattle.verbs_types.specs.declared.entry.What.{What}
use Rattle.owner_ring.specs.Consumer.{Consumer, Waiting, Reading}
use Rattle.cq_pair.specs.declared.place.CqPlace.{CqPlace}
use Rattle.cq_pair.specs.Host as host
use Rattle.cq_pair.specs.Mark.{QueueMark, Publish, Lose, Look, Read, Take, Acknowledge, Foreign}
use Rattle.counted_ring.specs.declared.place.WqPlace.{WqPlace}
use Rattle.counted_ring.specs.Mark.{WqMark}
use Rattle.counted_ring.specs.Retirer.{Asked, Retirer, MayCountFor}
use Rattle.counted_ring.specs.RetirerView.{MayServe, lookup_mark}
use Rattle.object_places.specs.Objects.{Mark, OnCompletions, OnSends, OnReceives, Ends}
use Rattle.provider_poll.specs.declared.state.End.{End}
use Rattle.provider_poll.specs.declared.state.PollState.{PollState}
use Rattle.provider_poll.specs.declared.state.PollState.TheVariants as states
use Rattle.provider_poll.specs.Rule.{PollPlace, PollRule, IsNextOf, MayGoOn, MayRetireFirst, found_before}
use Rattle.provider_poll.specs.Fresh.{poll_place}
use Rattle.actor_rules.specs.Thread.{Thread}
use Rattle.actor_rules.specs.Polling.{IsOnPolled, MayPoll, is_loading, load_says, given_with, poll_mark, poll_now, poll_says, polled, store_says, took_some}

-- Loads of a completion queue

reading_loads : (place : CqPlace) (a n i last : ℕ) (words : List ℕ) (mark : QueueMark) (e : BusEntry) → host.MayPoll place (Reading a n i last words) mark e → IsNextOf (Reading a n i last words) mark → e.op ≡ Load
reading_loads place a n i last words Read e may next = may.ring.op
reading_loads place a n i last words (Take completion) e may next = may.ring.op
reading_loads place a n i last words (Publish completion) e may next = absurd next
reading_loads place a n i last words Lose e may next = absurd next
reading_loads place a n i last words (Look index) e may next = absurd next
reading_loads place a n i last words (Acknowledge index) e may next = absurd next
reading_loads place a n i last words Foreign e may next = absurd next

look_loads : (place : CqPlace) (c : Consumer) (mark : QueueMark) (e : BusEntry) → host.MayPoll place c mark e → IsNextOf c mark → e.op ≡ Load
look_loads place (Waiting a n) mark e may next = (subst (λ (k : QueueMark). host.MayPoll place (Waiting a n) k e) next may).ring.load.op
look_loads place (Reading a n i last words) mark e may next = reading_loads place a n i last words mark e may next

-- Loads of a lookup

count_loads : (place : WqPlace) (asked : Option Asked) (e : BusEntry) → MayCountFor place asked e → e.op ≡ Load
count_loads place None e may = absurd may
count_loads place (Some a) e may = may.op

lookup_loads : (place : WqPlace) (r : Retirer) (counter from : ℕ) (asked : Option Asked) (e : BusEntry) → MayServe place r (lookup_mark counter from asked) e → e.op ≡ Load
lookup_loads place r counter from None e may = may.load.op
lookup_loads place r counter from (Some a) e may = count_loads place r.asked e may

-- what a call tells of it, a poll or a drain
pub record IsSaid (said : Option What) : Type 0 where
  pub polled : is_some said ≡ true
  pub drained : is_some (took_some said) ≡ true

module _ (d : Lines) (cq : ℕ) (s : PollRule) (e : BusEntry) (loads : Option What) where
  abbrev place : PollPlace
  place = poll_place d cq

  abbrev Tells : PollState → Mark → Type 0
  Tells state mark = (e.op ≡ Load) ⊎ IsSaid (if is_loading state then loads else store_says mark)

  retires : (left : List End) (index qp : ℕ) (mark : WqMark) → MayRetireFirst place s left index mark e → IsSaid (store_says (OnSends qp mark))
  retires [] index qp mark may = absurd may
  retires (end ∷ left) index qp mark may = subst (λ (k : WqMark). IsSaid (store_says (OnSends qp k))) (sym may.mark_is) (record { polled = refl; drained = refl })

  pub tells : (state : PollState) (mark : Mark) → IsOnPolled d cq mark → MayGoOn state place s (poll_mark d cq mark) e → Tells state mark
  tells state (OnReceives qp mark) on may = absurd on
  tells state Ends on may = absurd on
  tells states.Idle (OnCompletions c mark) on may = absurd may
  tells states.Idle (OnSends qp mark) on may = absurd may
  tells (states.Polling most ends) (OnCompletions c mark) on may = inl (look_loads place.cq s.host mark e may.polls may.next)
  tells (states.Polling most ends) (OnSends qp mark) on may = absurd may
  tells (states.LookingUp most ends c queue) (OnSends qp mark) on may =
      let r = may.serves.served.side in
      inl (lookup_loads may.serves.served.place r c.counter (found_before r) r.asked e (subst (λ (k : WqMark). MayServe may.serves.served.place r k e) may.mark_is may.serves.serves))
  tells (states.LookingUp most ends c queue) (OnCompletions n mark) on may = absurd may
  tells (states.Retiring taken empty left) (OnSends qp mark) on may = inr (retires left.items _ qp mark may)
  tells (states.Retiring taken empty left) (OnCompletions c mark) on may = absurd may
  tells (states.Acking taken empty) (OnCompletions c mark) on may = inr (subst (λ (k : QueueMark). IsSaid (store_says (OnCompletions c k))) (sym may.index) (record { polled = refl; drained = refl }))
  tells (states.Acking taken empty) (OnSends qp mark) on may = absurd may

-- an operation of a poll that writes is told
pub poll_told : (d : Lines) (t : Thread) (cq most : ℕ) (x : Marked Mark) → MayPoll d t cq most x → x.entry.op ≢ Load → IsSaid (poll_says d t cq most x)
poll_told d t cq most x may writes =
    elim (tells d cq (poll_now t cq most) x.entry (load_says cq most (given_with t.given (polled d t cq most x).answer) (polled d t cq most x).state) (poll_now t cq most).state x.mark may.on may.goes_on) [
      | inl load ↦ absurd (writes load)
      | inr said ↦ said
    ]
