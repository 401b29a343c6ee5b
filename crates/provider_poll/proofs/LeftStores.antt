-- Each operation of a poll brings it nearer to its end.
use Rattle.std.proofs.Common.{◌≡◌, ℕ, zero, suc, ◌+◌, refl, sym, ap, ◌∙◌, subst, arith, ◌≤◌, Bool, true, false, if◌then◌else◌, List, [], ◌∷◌, length, get_or, slice_get, slice_set, unwrap_or, is_some, Option, None, Some}
use Rattle.std.proofs.lemmas.Bool.{false≢true}
use Rattle.std.proofs.lemmas.List.{get_or-set_same}
use Rattle.std.proofs.lemmas.Option.{slice_get_within, get_or_from_slice_get}
use Rattle.bus_core.specs.declared.operation.BusEntry.{BusEntry}
use Rattle.bus_core.specs.Operation.{loaded}
use Rattle.verbs_types.specs.declared.completion.Completion.{Completion}
use Rattle.cqe_format.specs.declared.completion.Cqe.{Cqe}
use Rattle.owner_ring.specs.Consumer.{Consumer}
use Rattle.cq_pair.specs.Mark.{QueueMark}
use Rattle.counted_ring.specs.Mark.{WqMark, Count}
use Rattle.counted_ring.specs.Place.{is_send}
use Rattle.counted_ring.specs.Queue.{WqEvent, Named, Found}
use Rattle.counted_ring.specs.Retirer.{Retirer, Asked, end_after, count_says_for}
use Rattle.counted_ring.specs.RetirerView.{after_serve, served, is_found, lookup_mark, lookup_turns}
use Rattle.provider_poll.specs.declared.state.End.{End}
use Rattle.provider_poll.specs.declared.state.PollState.{PollState}
use Rattle.provider_poll.specs.declared.state.PollState.TheVariants.{Idle, Polling, LookingUp, Retiring, Acking}
use Rattle.provider_poll.specs.declared.poll_step.PollStep.{PollStep}
use Rattle.provider_poll.specs.Completion.{completion_of}
use Rattle.provider_poll.specs.Left.{asked_turns, poll_left}
use Rattle.provider_poll.specs.Rule.{PollPlace, PollRule, PollMark, OnHost, OnQueue, QueuePlace, MayGoOn, MayLookUp, MayRetireFirst, MayAcknowledge, queues_at, queues_of, found_before}
use Rattle.provider_poll.specs.RuleStep.{poll_side_step, after_poll_side, retirer_step, retirers_with, asked_with}
use Rattle.provider_poll.specs.SendQueue.{SendView, fresh_retirer}
use Rattle.provider_poll.specs.PollStep.{after_lookup}
use Rattle.provider_poll.proofs.LeftLoads.{IsHost, IsHostIn, IsLoading, IsUnderWay, lookup_few, Goes, stores, end_goes, look_goes}

-- the retirer of a queue's view
view_side : (qs : List QueuePlace) (rs : List Retirer) (i : ℕ) (q : SendView) → slice_get (queues_at qs rs) i ≡ Some q → slice_get rs i ≡ Some q.side
view_side [] rs zero q there = absurd (false≢true (ap is_some there))
view_side [] rs (suc i) q there = absurd (false≢true (ap is_some there))
view_side (p ∷ ps) [] zero q there = absurd (false≢true (ap is_some there))
view_side (p ∷ ps) [] (suc i) q there = absurd (false≢true (ap is_some there))
view_side (p ∷ ps) (r ∷ rs) zero q there = ap (λ o. Some (unwrap_or o q).side) there
view_side (p ∷ ps) (r ∷ rs) (suc i) q there = view_side ps rs i q there

module _ (place : PollPlace) (most given : ℕ) (c : Consumer) (seen : ℕ) (rs : List Retirer) (e : BusEntry) where
  abbrev side : PollState → PollRule
  side state = record { host = c; seen = seen; retirers = rs; state = state }

  abbrev Result : PollState → PollMark → Type 0
  Result state mark = (IsHost c → IsHost (after_poll_side place (side state) mark e).host) × Goes most given (poll_left c rs state) (after_poll_side place (side state) mark e) (poll_side_step place (side state) mark e).answer

  -- an operation on the words of a queue whose view is known

  abbrev retirers_then : ℕ → WqMark → Option SendView → List Retirer
  retirers_then queue mark o = retirers_with rs queue mark e o

  abbrev turned_then : PollState → ℕ → WqMark → Option SendView → PollStep
  turned_then state queue mark o = asked_with place (side state) (queues_at place.queues (retirers_then queue mark o)) mark e o

  abbrev Served : PollState → ℕ → WqMark → Option SendView → Type 0
  Served state queue mark o = Goes most given (poll_left c rs state) (record { host = c; seen = seen; retirers = retirers_then queue mark o; state = (turned_then state queue mark o).state }) (turned_then state queue mark o).answer

  by_view : (state : PollState) (queue : ℕ) (mark : WqMark) (q : SendView) → slice_get (queues_of place (side state)) queue ≡ Some q → Served state queue mark (Some q) → Result state (OnQueue queue mark)
  by_view state queue mark q there h = (λ fine. fine, subst (Served state queue mark) (sym there) h)

  -- Lookups

  module _ (max : ℕ) (ends : List End) (h : IsLoading most given max (length ends)) (completion : Cqe) (queue : ℕ) (q : SendView) (there : slice_get rs queue ≡ Some q.side) where
    abbrev looks_up : PollState
    looks_up = LookingUp max (record { items = ends }) completion queue

    -- the retirer then, and what it found
    abbrev Found_as : Retirer → Option WqEvent → Type 0
    Found_as r event = (views : List SendView) → Goes most given (poll_left c rs looks_up) (record { host = c; seen = seen; retirers = slice_set rs queue r; state = (after_lookup place.cq.number views max (record { items = ends }) seen completion queue (retirer_step (is_found event))).state })
        (after_lookup place.cq.number views max (record { items = ends }) seen completion queue (retirer_step (is_found event))).answer

    turns_are : (asked : Option Asked) → q.side.asked ≡ asked → asked_turns rs queue ≡ lookup_turns asked
    turns_are asked is = ap (λ (r : Retirer). lookup_turns r.asked) (get_or_from_slice_get rs queue q.side fresh_retirer there) ∙ ap lookup_turns is

    some_turn : 1 ≤ asked_turns rs queue
    some_turn = let few = lookup_few (get_or rs queue fresh_retirer).asked in few.0

    finds : (r : Retirer) (counter id end : ℕ) → Found_as r (Some (Found counter id end))
    finds r counter id end views = end_goes most given seen place.cq.number views max ends seen (poll_left c rs looks_up) h c (slice_set rs queue r) (record { queue = queue; end = end }) (completion_of completion id) (let some = some_turn in omega (arith, some))

    names : (r : Retirer) (a : Asked) (counter id : ℕ) → q.side.asked ≡ None → r.asked ≡ Some a → Found_as r (Some (Named counter id))
    names r a counter id none is views =
        let inside = slice_get_within rs queue q.side there in
        let now : asked_turns (slice_set rs queue r) queue ≡ 1 = ap (λ (x : Retirer). lookup_turns x.asked) (get_or-set_same rs queue r fresh_retirer inside) ∙ ap lookup_turns is in
        let before = turns_are None none in
        (h, omega (arith, now, before))

    by_asked : (asked : Option Asked) → q.side.asked ≡ asked → Found_as (after_serve q.place q.side (lookup_mark completion.counter (found_before q.side) asked) e) (served q.place q.side (lookup_mark completion.counter (found_before q.side) asked) e)
    by_asked None is = by (is_send q.place)
      where
        by : (b : Bool) → Found_as (if b then record { tail = q.side.tail; found = found_before q.side; asked = Some (record { counter = completion.counter; id = loaded e }) } else record { tail = q.side.tail; found = found_before q.side + 1; asked = None })
            (if b then Some (Named completion.counter (loaded e)) else Some (Found completion.counter (loaded e) (found_before q.side + 1)))
        by true = names (record { tail = q.side.tail; found = found_before q.side; asked = Some (record { counter = completion.counter; id = loaded e }) }) (record { counter = completion.counter; id = loaded e }) completion.counter (loaded e) is refl
        by false = finds (record { tail = q.side.tail; found = found_before q.side + 1; asked = None }) completion.counter (loaded e) (found_before q.side + 1)
    by_asked (Some a) is = subst (λ (o : Option Asked). Found_as (after_serve q.place q.side Count e) (count_says_for o e)) (sym is) (finds (after_serve q.place q.side Count e) a.counter a.id (end_after e))

  lookup_goes : (max : ℕ) (ends : List End) (completion : Cqe) (queue index : ℕ) (mark : WqMark) → IsLoading most given max (length ends) → MayLookUp place (side (LookingUp max (record { items = ends }) completion queue)) completion queue index mark e
      → Result (LookingUp max (record { items = ends }) completion queue) (OnQueue index mark)
  lookup_goes max ends completion queue index mark h may =
      let state : PollState = LookingUp max (record { items = ends }) completion queue in
      let q = may.serves.served in
      subst (λ (i : ℕ). Result state (OnQueue i mark)) (sym may.queue_is)
      (subst (λ (m : WqMark). Result state (OnQueue queue m)) (sym may.mark_is)
      (by_view state queue (lookup_mark completion.counter (found_before q.side) q.side.asked) q may.serves.found
      (by_asked max ends h completion queue q (view_side place.queues rs queue q may.serves.found) q.side.asked refl (queues_at place.queues (retirers_then queue (lookup_mark completion.counter (found_before q.side) q.side.asked) (Some q))))))

  -- Stores

  retire_goes : (taken : ℕ) (empty : Option ℕ) (ends : List End) (index : ℕ) (mark : WqMark) → length ends ≤ most → MayRetireFirst place (side (Retiring taken empty (record { items = ends }))) ends index mark e
      → Result (Retiring taken empty (record { items = ends })) (OnQueue index mark)
  retire_goes taken empty [] index mark few may = absurd may
  retire_goes taken empty (end ∷ ends) index mark few may =
      let state : PollState = Retiring taken empty (record { items = end ∷ ends }) in
      let q = may.serves.served in
      let rs' : List Retirer = retirers_then end.queue mark (Some q) in
      let s = stores most given c rs' (queues_at place.queues rs') taken empty ends (omega (arith, few)) in
      subst (λ (i : ℕ). Result state (OnQueue i mark)) (sym may.queue_is)
      (by_view state end.queue mark q may.serves.found (s.stands, omega (arith, s.few)))

  ack_goes : (taken : ℕ) (empty : Option ℕ) (mark : QueueMark) → MayAcknowledge place (side (Acking taken empty)) mark e → Result (Acking taken empty) (OnHost mark)
  ack_goes taken empty mark may = subst (λ (m : QueueMark). Result (Acking taken empty) (OnHost m)) (sym may.index) (λ fine. tt, (refl, tt))

  -- each operation of a poll brings it nearer to its end
  pub poll_goes : (state : PollState) (mark : PollMark) → IsHostIn state c → IsUnderWay most given state → MayGoOn state place (side state) mark e → Result state mark
  poll_goes Idle mark fine h may = absurd h
  poll_goes (Polling max ends) (OnHost mark) fine h may = let looked = look_goes place most given seen rs max ends.items h e c mark fine may in (λ x. looked.0, looked.1)
  poll_goes (Polling max ends) (OnQueue index mark) fine h may = absurd may
  poll_goes (LookingUp max ends completion queue) (OnHost mark) fine h may = absurd may
  poll_goes (LookingUp max ends completion queue) (OnQueue index mark) fine h may = lookup_goes max ends.items completion queue index mark h may
  poll_goes (Retiring taken empty left) (OnHost mark) fine h may = absurd may
  poll_goes (Retiring taken empty left) (OnQueue index mark) fine h may = retire_goes taken empty left.items index mark h may
  poll_goes (Acking taken empty) (OnHost mark) fine h may = ack_goes taken empty mark may
  poll_goes (Acking taken empty) (OnQueue index mark) fine h may = absurd may
