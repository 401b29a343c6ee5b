-- Turns of the machine as operations of its rule.
use Rattle.std.proofs.Common.{◌≡◌, ℕ, refl, sym, ap, ◌∙◌, List, [], ◌∷◌, map, slice_get, slice_set, Option, Some}
use Rattle.std.proofs.lemmas.List.{map-set}
use Rattle.arrayvec.specs.ArrayVec.{ArrayVec}
use Rattle.bus_core.specs.declared.operation.BusEntry.{BusEntry}
use Rattle.bus_core.specs.declared.turn.Note.{Note}
use Rattle.bus_core.specs.declared.turn.Step.{Step}
use Rattle.bus_core.specs.declared.turn.Step.TheVariants.{More, Gave, Done}
use Rattle.bus_core.specs.Operation.{loaded}
use Rattle.verbs_types.specs.declared.completion.Completion.{Completion}
use Rattle.cqe_format.specs.declared.completion.Cqe.{Cqe}
use Rattle.owner_ring.specs.Consumer.{Consumer, Waiting, Reading, next_index}
use Rattle.owner_ring.specs.ConsumerView.{seen_after}
use Rattle.cq_pair.specs.declared.host.CqDone.{CqDone}
use Rattle.cq_pair.specs.declared.host.CqDone.TheVariants.{Took, Empty, Acked}
use Rattle.cq_pair.specs.declared.place.CqPlace.{CqPlace}
use Rattle.cq_pair.specs.Place.{ring_of}
use Rattle.cq_pair.specs.Mark.{QueueMark, Acknowledge, ring_mark}
use Rattle.cq_pair.specs.Queue as queue
use Rattle.cq_pair.specs.Queue.{QueueEvent}
use Rattle.cq_pair.specs.Host.{MayPoll, after_poll, polled}
use Rattle.cq_pair.specs.HostView.{HostView, poll_mark, answer_says}
use Rattle.counted_ring.specs.declared.retirer.Retired.{Retired}
use Rattle.counted_ring.specs.Mark.{WqMark, Retire}
use Rattle.counted_ring.specs.Retirer.{Retirer}
use Rattle.counted_ring.specs.RetirerView.{served, is_found, answered}
use Rattle.provider_poll.specs.declared.answer.PollAnswer.{PollAnswer}
use Rattle.provider_poll.specs.declared.state.End.{End}
use Rattle.provider_poll.specs.declared.state.PollState.{PollState}
use Rattle.provider_poll.specs.declared.state.PollState.TheVariants.{Idle, Polling, LookingUp, Retiring, Acking}
use Rattle.provider_poll.specs.declared.poll_step.PollStep.{PollStep}
use Rattle.provider_poll.specs.SendQueue.{SendView, retirer_of}
use Rattle.provider_poll.specs.PollStep.{after_look, after_lookup, after_retire, after_ack}
use Rattle.provider_poll.specs.Turns.{InQueue, acked_index}
use Rattle.provider_poll.specs.Poll.{PollView, SideTurn}
use Rattle.provider_poll.specs.Rule.{QueuePlace, PollPlace, PollRule, OnHost, OnQueue, MayPollSide, IsNextOf, MayServeIn, queues_at, queues_of, lookup_in}
use Rattle.provider_poll.specs.RuleStep.{host_step, retirer_step, retirers_with, retirers_by, asked_with, poll_side_step, seen_by}
use Rattle.provider_poll.specs.FollowsRule.{FollowsRule, queue_place, place_of, rule_of}
use Rattle.provider_poll.proofs.Places.{stays}
use Rattle.provider_poll.proofs.Retirers.{Serves, looks_up, retires}
use Rattle.provider_poll.proofs.Sides.{asking_stays}

abbrev side_of : SendView → Retirer
side_of q = q.side

-- queues that are taken apart and put together
together : (qs : List SendView) → queues_at (map queue_place qs) (map side_of qs) ≡ qs
together [] = refl
together (q ∷ qs) = ap (λ rest. q ∷ rest) (together qs)

-- what the host's answer shows is what the operation says
module _ (number : ℕ) (qs : List SendView) (max : ℕ) (ends : ArrayVec End) (seen : ℕ) (place : CqPlace) (e : BusEntry) where
  looked : (side : Consumer) (step : Step (Unit {0}) CqDone) → MayPoll place side (poll_mark side step) e → ((index word : ℕ) → step ≡ Done (Empty index word) → word ≡ loaded e) → after_look number qs max ends seen step ≡ after_look number qs max ends seen (host_step e (answer_says side step))
  looked side More may word = refl
  looked side (Gave part) may word = refl
  looked (Waiting acked next) (Done (Took c)) may word = absurd may.ring
  looked (Reading acked next index last words) (Done (Took c)) may word = refl
  looked side (Done (Empty index w)) may word = ap (λ (w : ℕ). after_look number qs max ends seen (Done (Empty index w))) (word index w refl)
  looked side (Done (Acked ci)) may word = refl

  next_of : (side : Consumer) (step : Step (Unit {0}) CqDone) → MayPoll place side (poll_mark side step) e → IsNextOf side (poll_mark side step)
  next_of (Waiting acked next) More may = refl
  next_of (Waiting acked next) (Gave part) may = refl
  next_of (Waiting acked next) (Done (Took c)) may = absurd may.ring
  next_of (Waiting acked next) (Done (Empty i w)) may = refl
  next_of (Waiting acked next) (Done (Acked ci)) may = refl
  next_of (Reading acked next index last words) More may = tt
  next_of (Reading acked next index last words) (Gave part) may = tt
  next_of (Reading acked next index last words) (Done (Took c)) may = tt
  next_of (Reading acked next index last words) (Done (Empty i w)) may = tt
  next_of (Reading acked next index last words) (Done (Acked ci)) may = tt

-- a consumer index that was stored
acked : (side : Consumer) (step : Step (Unit {0}) CqDone) (index : ℕ) → answer_says side step ≡ Some (queue.Acked index) → acked_index step ≡ index
acked side More index says = absurd cc
acked side (Gave part) index says = absurd cc
acked (Waiting a n) (Done (Took c)) index says = absurd cc
acked (Reading a n i l ws) (Done (Took c)) index says = absurd cc
acked side (Done (Empty i w)) index says = absurd cc
acked side (Done (Acked ci)) index says = cc

-- the same of a lookup
asked : (number : ℕ) (qs : List SendView) (max : ℕ) (ends : ArrayVec End) (seen : ℕ) (c : Cqe) (queue : ℕ) (step : Step (Unit {0}) Retired) → after_lookup number qs max ends seen c queue step ≡ after_lookup number qs max ends seen c queue (retirer_step (answered step))
asked number qs max ends seen c queue More = refl
asked number qs max ends seen c queue (Gave part) = refl
asked number qs max ends seen c queue (Done done) = refl

abbrev view : HostView → List SendView → PollState → Option Note → PollView
view h qs state noted = record { host = h; queues = qs; state = state; noted = noted }

-- an operation on the words of a queue
module _ (h : HostView) (qs qs' : List SendView) (state : PollState) (i : ℕ) (before after : SendView) (mark : WqMark) (e : BusEntry) (step : Step (Unit {0}) Retired)
    (within : InQueue qs qs' i before after) (number : after.number ≡ before.number) (place : after.place ≡ before.place) (serves : Serves before.place before.side after.side mark e step) where
  abbrev at_place : PollPlace
  at_place = record { cq = h.place; queues = map queue_place qs }

  abbrev rule : PollRule
  rule = record { host = h.side; seen = h.seen; retirers = map side_of qs; state = state }

  found : slice_get (queues_of at_place rule) i ≡ Some before
  found = ap (λ (qs : List SendView). slice_get qs i) (together qs) ∙ within.found

  retirers : map side_of qs' ≡ retirers_by at_place rule i mark e
  retirers = ap (λ (qs : List SendView). map side_of qs) within.queues ∙ map-set side_of qs i after ∙ ap (λ (r : Retirer). slice_set (map side_of qs) i r) serves.side ∙ ap (λ (q : Option SendView). retirers_with (map side_of qs) i mark e q) (sym found)

  places : map queue_place qs' ≡ map queue_place qs
  places = ap (λ (qs : List SendView). map queue_place qs) within.queues ∙ stays queue_place qs i before after within.found (λ j. record { number = number j; place = place j })

  queues : qs' ≡ queues_at (map queue_place qs) (retirers_by at_place rule i mark e)
  queues = sym (together qs') ∙ ap (λ (ps : List QueuePlace). queues_at ps (map side_of qs')) places ∙ ap (λ (rs : List Retirer). queues_at (map queue_place qs) rs) retirers

  abbrev may_serve : MayServeIn at_place rule i mark e
  may_serve = record { served = before; found = found; serves = serves.may }

  on_queue : (h' : HostView) (state' : PollState) (noted noted' : Option Note) (answer : Step Completion PollAnswer) (turned : PollStep) → h' ≡ h → MayPollSide at_place rule (OnQueue i mark) e → turned ≡ poll_side_step at_place rule (OnQueue i mark) e
      → state' ≡ turned.state → answer ≡ turned.answer → noted' ≡ turned.noted → FollowsRule (view h qs state noted) (view h' qs' state' noted') e answer
  on_queue h' state' noted noted' answer turned host may is state_is answer_is noted_is =
      let state_by : state' ≡ (poll_side_step at_place rule (OnQueue i mark) e).state = state_is ∙ ap (λ (t : PollStep). t.state) is in
      record {
        mark = OnQueue i mark;
        may = may;
        rule = λ j. record { host = (host j).side; seen = (host j).seen; retirers = retirers j; state = state_by j };
        answer_is = answer_is ∙ ap (λ (t : PollStep). t.answer) is;
        noted = noted_is ∙ ap (λ (t : PollStep). t.noted) is;
        place = λ j. record { cq = (host j).place; queues = places j };
      }

module _ (h : HostView) (qs : List SendView) (state : PollState) (mark : QueueMark) (e : BusEntry) where
  abbrev host_at : PollPlace
  host_at = record { cq = h.place; queues = map queue_place qs }

  abbrev host_rule : PollRule
  host_rule = record { host = h.side; seen = h.seen; retirers = map side_of qs; state = state }

  -- an operation on the words of the completion queue
  on_host : (h' : HostView) (qs' : List SendView) (state' : PollState) (noted noted' : Option Note) (answer : Step Completion PollAnswer) (turned : PollStep) → h'.side ≡ after_poll h.place h.side mark e → h'.seen ≡ seen_by host_at host_rule mark e → h'.place ≡ h.place → qs' ≡ qs
      → MayPollSide host_at host_rule (OnHost mark) e → turned ≡ poll_side_step host_at host_rule (OnHost mark) e → state' ≡ turned.state → answer ≡ turned.answer → noted' ≡ turned.noted → FollowsRule (view h qs state noted) (view h' qs' state' noted') e answer
  on_host h' qs' state' noted noted' answer turned side seen place queues may is state_is answer_is noted_is =
      let state_by : state' ≡ (poll_side_step host_at host_rule (OnHost mark) e).state = state_is ∙ ap (λ (t : PollStep). t.state) is in
      record {
        mark = OnHost mark;
        may = may;
        rule = λ j. record { host = side j; seen = seen j; retirers = map side_of (queues j); state = state_by j };
        answer_is = answer_is ∙ ap (λ (t : PollStep). t.answer) is;
        noted = noted_is ∙ ap (λ (t : PollStep). t.noted) is;
        place = λ j. record { cq = place j; queues = map queue_place (queues j) };
      }

module _ (h h' : HostView) (qs qs' : List SendView) (state' : PollState) (noted noted' : Option Note) (e : BusEntry) (answer : Step Completion PollAnswer) where
  abbrev Follow : PollState → Type 0
  Follow state = SideTurn (view h qs state noted) (view h' qs' state' noted') e answer → FollowsRule (view h qs state noted) (view h' qs' state' noted') e answer

  polls : (max : ℕ) (ends : ArrayVec End) → Follow (Polling max ends)
  polls max ends t =
      let l = t.turns.0 in
      let turn = l.host_turn in
      let mark = poll_mark h.side l.step in
      let is = l.turned_is
      ∙ ap (λ (n : ℕ). after_look h.place.number qs max ends n l.step) turn.seen
      ∙ looked h.place.number qs max ends (seen_after (ring_of h.place) (ring_mark mark) h.seen e) h.place e h.side l.step turn.may turn.word
      ∙ ap (λ (said : Option QueueEvent). after_look h.place.number qs max ends (seen_after (ring_of h.place) (ring_mark mark) h.seen e) (host_step e said)) turn.says
      ∙ ap (λ (qs : List SendView). after_look h.place.number qs max ends (seen_after (ring_of h.place) (ring_mark mark) h.seen e) (host_step e (polled h.place h.side mark e))) (sym (together qs)) in
      on_host h qs (Polling max ends) mark e h' qs' state' noted noted' answer t.turned turn.side turn.seen turn.place t.turns.1
      (record { polls = turn.may; next = next_of h.place.number qs max ends 0 h.place e h.side l.step turn.may }) is t.state t.answer_is t.noted

  acknowledges : (taken : ℕ) (empty : Option ℕ) → Follow (Acking taken empty)
  acknowledges taken empty t =
      let a = t.turns.0 in
      let turn = a.host_turn in
      let is = a.turned_is ∙ ap (λ (n : ℕ). after_ack h.place.number taken empty n) (acked h.side a.step (next_index h.side) turn.says) in
      on_host h qs (Acking taken empty) (Acknowledge (next_index h.side)) e h' qs' state' noted noted' answer t.turned turn.side turn.seen turn.place t.turns.1
      (record { polls = turn.may; index = refl }) is t.state t.answer_is t.noted

  asks : (max : ℕ) (ends : ArrayVec End) (c : Cqe) (queue : ℕ) → Follow (LookingUp max ends c queue)
  asks max ends c queue t =
      let u = t.turns.0 in
      let mark = lookup_in c.counter u.before.side in
      let state = LookingUp max ends c queue in
      let serves = looks_up u.before c.counter (retirer_of u.after) e u.step u.queue_turn.retirer in
      let place = u.queue_turn.retirer.place ∙ asking_stays c.counter u.before in
      let number = u.queue_turn.number in
      let is = u.turned_is
      ∙ asked h.place.number qs' max ends h.seen c queue u.step
      ∙ ap (λ (done : Option Retired). after_lookup h.place.number qs' max ends h.seen c queue (retirer_step done)) serves.says
      ∙ ap (λ (qs : List SendView). after_lookup h.place.number qs max ends h.seen c queue (retirer_step (is_found (served u.before.place u.before.side mark e)))) (queues h qs qs' state queue u.before u.after mark e u.step u.within number place serves)
      ∙ ap (λ (q : Option SendView). asked_with (place_of (view h qs state noted)) (rule_of (view h qs state noted)) (queues_at (map queue_place qs) (retirers_by (place_of (view h qs state noted)) (rule_of (view h qs state noted)) queue mark e)) mark e q) (sym (found h qs qs' state queue u.before u.after mark e u.step u.within number place serves)) in
      on_queue h qs qs' state queue u.before u.after mark e u.step u.within number place serves h' state' noted noted' answer t.turned t.turns.1
      (record { queue_is = refl; serves = may_serve h qs qs' state queue u.before u.after mark e u.step u.within number place serves; mark_is = refl }) is t.state t.answer_is t.noted

  stores : (taken : ℕ) (empty : Option ℕ) (left : List End) → Follow (Retiring taken empty (record { items = left }))
  stores taken empty [] t = absurd t.turns.0
  stores taken empty (first ∷ left) t =
      let u = t.turns.0 in
      let mark = Retire first.end in
      let state = Retiring taken empty (record { items = first ∷ left }) in
      let serves = retires u.before first.end (retirer_of u.after) e u.step u.queue_turn.retirer in
      let place = u.queue_turn.retirer.place in
      let number = u.queue_turn.number in
      let is = u.turned_is
      ∙ ap (λ (qs : List SendView). after_retire qs taken empty left u.before.number first.end) (queues h qs qs' state first.queue u.before u.after mark e u.step u.within number place serves)
      ∙ ap (λ (q : Option SendView). asked_with (place_of (view h qs state noted)) (rule_of (view h qs state noted)) (queues_at (map queue_place qs) (retirers_by (place_of (view h qs state noted)) (rule_of (view h qs state noted)) first.queue mark e)) mark e q) (sym (found h qs qs' state first.queue u.before u.after mark e u.step u.within number place serves)) in
      on_queue h qs qs' state first.queue u.before u.after mark e u.step u.within number place serves h' state' noted noted' answer t.turned t.turns.1
      (record { queue_is = refl; serves = may_serve h qs qs' state first.queue u.before u.after mark e u.step u.within number place serves; mark_is = refl }) is t.state t.answer_is t.noted

  follow : (state : PollState) → Follow state
  follow Idle t = absurd t.turns
  follow (Polling max ends) t = polls max ends t
  follow (LookingUp max ends c queue) t = asks max ends c queue t
  follow (Retiring taken empty left) t = stores taken empty left.items t
  follow (Acking taken empty) t = acknowledges taken empty t

-- each turn of the machine is an operation of the rule
pub turns_follow : (old new : PollView) (e : BusEntry) (answer : Step Completion PollAnswer) → SideTurn old new e answer → FollowsRule old new e answer
turns_follow old new e answer t = follow old.host new.host old.queues new.queues new.state old.noted new.noted e answer old.state t
