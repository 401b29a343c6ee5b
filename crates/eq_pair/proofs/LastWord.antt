-- The load of an entry's last unread word, as the ring's consumer makes it and as the host takes the event by it.
use Rattle.std.proofs.Common.{◌≡◌, ℕ, ◌+◌, ◌*◌, ◌^◌, IsTrue, refl, ap, sym, ◌∙◌, subst, arith, Bool, true, false, cond, eqb, is_some, List, length, Option, Some, None}
use Rattle.std.proofs.lemmas.Bool.{eqb-true}
use Rattle.bus_core.specs.declared.operation.BusEntry.{BusEntry}
use Rattle.bus_core.specs.declared.turn.Step.TheVariants.{More, Done}
use Rattle.bus_core.specs.Operation.{loaded}
use Rattle.verbs_types.specs.declared.completion.EventRecord.{EventRecord}
use Rattle.owner_ring.specs.declared.place.RingPlace.{RingPlace}
use Rattle.owner_ring.specs.declared.consumer.Taken.TheVariants as ring_answers
use Rattle.owner_ring.specs.Place.{slot, is_owned}
use Rattle.owner_ring.specs.Ring as ring
use Rattle.owner_ring.specs.Consumer.{Consumer, acked_index}
use Rattle.owner_ring.specs.Consumer as ring_side
use Rattle.owner_ring.specs.ConsumerView.{ConsumerView, ConsumerTurn, Task}
use Rattle.owner_ring.specs.ConsumerView as ring_view
use Rattle.eq_pair.specs.declared.place.EqPlace.{EqPlace}
use Rattle.eq_pair.specs.Place.{ring_of}
use Rattle.eq_pair.specs.Host.{Holding, consumer_of, IsReadAs, whole_entry}
use Rattle.eq_pair.specs.HostView.{HostView, HostTurn, turns_left}
use Rattle.eq_pair.specs.HostInside.{taker_of, host_with, IsTask}

whole_now : (full : Bool) (i j : ℕ) (words whole : List ℕ) → Some (ring.Took j words) ≡ cond full (Some (ring.Took i whole)) None → (full ≡ true) × (words ≡ whole)
whole_now true i j words whole h = (refl, cc)
whole_now false i j words whole h = absurd (cc)

look_takes_none : (owned : Bool) (i j : ℕ) (words : List ℕ) → Some (ring.Took j words) ≡ cond owned None (Some (ring.Empty i)) → ⊥
look_takes_none true i j words h = cc
look_takes_none false i j words h = cc

module _ (place : EqPlace) (seen : ℕ) (new after : ConsumerView) (e : BusEntry) (event : EventRecord) (j : ℕ) (words : List ℕ) (read_as : IsReadAs words event)
    (begun : after ≡ record new { task = Some (ring_view.Acknowledgement (place.number * 2 ^ 24)) }) where
  abbrev old : Consumer → ConsumerView
  old side = record { place = ring_of place; side = side; task = Some ring_view.Take; seen = seen }

  abbrev Takes : Consumer → Type 0
  Takes side = ConsumerTurn (old side) new e (Done (ring_answers.Entry j words)) → HostTurn (host_with place None (old side)) (host_with place (Some event) after) e More

  reads_last : (i last : ℕ) (ws : List ℕ) → Takes (ring_side.Reading i i i last ws)
  reads_last i last ws t =
      let end = whole_now (eqb (length ws) 6) i j words (whole_entry ws (loaded e) last) t.says in
      let six : length ws ≡ 6 = eqb-true (length ws) 6 end.0 in
      let side_is : after.side ≡ ring_side.Waiting i (i + 1) = ap (λ v. v.side) begun ∙ (t.side ∙ rw end.0 refl) in
      let task_is : is_some after.task ≡ true = ap (λ v. is_some v.task) begun in
      record {
        may = record {
          rest = six;
          load = record { op = t.may.op; at_address = t.may.at_address ∙ ap (slot (ring_of place) i) six };
          read_as = subst (λ (xs : List ℕ). IsReadAs xs event) end.1 read_as;
        };
        inside = t.inside;
        side = ap (λ c. Holding (acked_index c) event) side_is;
        says = refl;
        taking = task_is;
        fewer = omega (arith, six, ap (λ b. turns_left b (Holding (acked_index after.side) event)) task_is);
        seen = ap (λ v. v.seen) begun ∙ t.seen;
        place = refl;
      }

  -- the entry that the ring took is the one that the host was reading
  takes_at : (side : Consumer) → side ≡ consumer_of (taker_of None side) → Takes side
  takes_at (ring_side.Waiting a n) is t = absurd (look_takes_none (is_owned (ring_of place) n (loaded e)) n j words t.says)
  takes_at (ring_side.Reading a n i last ws) is t = subst Takes (sym is) (reads_last i last ws) t

-- a host that is taking, as its caller sees it
pub record IsTaking (place : EqPlace) (event : Option EventRecord) (c : ConsumerView) (h : HostView) : Type 0 where
  pub same : c.place ≡ ring_of place
  pub side_is : c.side ≡ consumer_of (taker_of event c.side)
  pub task_is : IsTask place event c.task
  pub seen_as : host_with place event c ≡ h
  pub busy : IsTrue h.taking

takes_with : (place : EqPlace) (c new after : ConsumerView) (task : Option Task) (e : BusEntry) (event : EventRecord) (j : ℕ) (words : List ℕ) → task ≡ c.task → IsTrue (is_some task) → IsTask place None task → c.place ≡ ring_of place → c.side ≡ consumer_of (taker_of None c.side) → IsReadAs words event → after ≡ record new { task = Some (ring_view.Acknowledgement (place.number * 2 ^ 24)) } →
    ConsumerTurn c new e (Done (ring_answers.Entry j words)) → HostTurn (host_with place None c) (host_with place (Some event) after) e More
takes_with place c new after None e event j words task_is busy fits same side_is read_as begun t = absurd (cc)
takes_with place c new after (Some ring_view.Take) e event j words task_is busy fits same side_is read_as begun t =
    let at_place = subst (λ (p : RingPlace). ConsumerTurn (record { place = p; side = c.side; task = c.task; seen = c.seen }) new e (Done (ring_answers.Entry j words))) same t in
    let at_task = subst (λ (k : Option Task). ConsumerTurn (record { place = ring_of place; side = c.side; task = k; seen = c.seen }) new e (Done (ring_answers.Entry j words))) (sym task_is) at_place in
    subst (λ (k : Option Task). HostTurn (host_with place None (record { place = c.place; side = c.side; task = k; seen = c.seen })) (host_with place (Some event) after) e More) task_is
    (takes_at place c.seen new after e event j words read_as begun c.side side_is at_task)
takes_with place c new after (Some (ring_view.Acknowledgement above)) e event j words task_is busy fits same side_is read_as begun t = absurd fits

pub takes_event : (place : EqPlace) (held : Option EventRecord) (c new after : ConsumerView) (h : HostView) (e : BusEntry) (event : EventRecord) (j : ℕ) (words : List ℕ) → IsTaking place held c h → held ≡ None → IsReadAs words event → after ≡ record new { task = Some (ring_view.Acknowledgement (place.number * 2 ^ 24)) } →
    ConsumerTurn c new e (Done (ring_answers.Entry j words)) → HostTurn h (host_with place (Some event) after) e More
takes_event place held c new after h e event j words r none read_as begun t =
    let side_is = subst (λ (o : Option EventRecord). c.side ≡ consumer_of (taker_of o c.side)) none r.side_is in
    let task_is = subst (λ (o : Option EventRecord). IsTask place o c.task) none r.task_is in
    let seen_as = subst (λ (o : Option EventRecord). host_with place o c ≡ h) none r.seen_as in
    let busy : IsTrue (is_some c.task) = subst (λ (v : HostView). IsTrue v.taking) (sym seen_as) r.busy in
    subst (λ (v : HostView). HostTurn v (host_with place (Some event) after) e More) seen_as (takes_with place c new after c.task e event j words refl busy task_is r.same side_is read_as begun t)
