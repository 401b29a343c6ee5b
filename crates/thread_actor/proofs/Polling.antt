-- An operation of a poll, as the rule of threads has it.
use Rattle.std.proofs.Common.{◌≡◌, ◌≢◌, ◌⊎◌, inl, inr, ℕ, zero, suc, ◌+◌, ◌-◌, ◌≤◌, ◌<◌, ◌==◌, arith, refl, sym, ap, ◌∙◌, subst, true, false, Bool, if◌then◌else◌, List, [], ◌∷◌, length, map, filter, position, slice_get, slice_index_or, unwrap_or, Option, None, Some, is_some}
use Rattle.std.specs.List.{range_with_len}
use Rattle.std.proofs.lemmas.Bool.{cases_Bool, false≢true}
use Rattle.std.proofs.lemmas.Option.{get_or_from_slice_get}
use Rattle.std.proofs.lemmas.Bool.Decides.{nat_tests}
use Rattle.bus_core.specs.declared.operation.BusEntry.{BusEntry}
use Rattle.bus_core.specs.declared.turn.Step.{Step}
use Rattle.bus_core.specs.Mark.{Marked}
use Rattle.verbs_types.specs.declared.completion.Completion.{Completion}
use Rattle.verbs_types.specs.declared.completion.Queue.TheVariants.{Send}
use Rattle.verbs_types.specs.declared.declaration.Lines.{Lines}
use Rattle.verbs_types.specs.declared.declaration.TheConstants.{FIRST_QP}
use Rattle.verbs_types.specs.declared.entry.What.{What}
use Rattle.verbs_types.specs.declared.entry.What.TheVariants.{Retire, Ack}
use Rattle.cqe_format.specs.declared.completion.Cqe.{Cqe}
use Rattle.owner_ring.specs.Consumer.{Consumer, next_index}
use Rattle.cq_pair.specs.Host.{MayPoll, after_poll, polled}
use Rattle.cq_pair.specs.Mark.{QueueMark, Acknowledge}
use Rattle.counted_ring.specs.Mark as counted
use Rattle.counted_ring.specs.Mark.{WqMark}
use Rattle.counted_ring.specs.Retirer.{Retirer}
use Rattle.counted_ring.specs.RetirerView.{MayServe, after_serve, served, is_found}
use Rattle.object_places.specs.Objects.{Mark, OnCompletions, OnSends}
use Rattle.object_places.specs.Places.{send_of}
use Rattle.provider_poll.specs.declared.answer.PollAnswer.{PollAnswer}
use Rattle.provider_poll.specs.declared.state.End.{End}
use Rattle.provider_poll.specs.declared.state.PollState.{PollState}
use Rattle.provider_poll.specs.declared.state.PollState.TheVariants as states
use Rattle.provider_poll.specs.declared.poll_step.PollStep.{PollStep}
use Rattle.provider_poll.specs.FollowsRule as follows
use Rattle.provider_poll.specs.Poll.{PollView}
use Rattle.provider_poll.specs.Poll as polls
use Rattle.provider_poll.specs.Rule.{QueuePlace, PollPlace, PollRule, PollMark, OnHost, OnQueue, MayGoOn, MayPollSide, MayServeIn, MayRetireFirst, queues_at, queues_of}
use Rattle.provider_poll.specs.RuleStep.{poll_side_step, after_poll_side, asked_with, retired_first, retirers_by, retirer_step, host_step, seen_by}
use Rattle.provider_poll.specs.SendQueue.{SendView}
use Rattle.provider_poll.specs.PollStep.{after_retire, after_ack}
use Rattle.provider_poll.specs.Turns.{acked_index}
use Rattle.actor_rules.specs.Polling as rules
use Rattle.actor_rules.specs.Polling.{place_in, poll_mark, IsOnPolled, given_with, is_loading, load_says, store_says}
use Rattle.provider_poll.specs.Fresh.{completes_to, poll_place, senders}
use Rattle.thread_actor.specs.Polls.{begun, begun_at}
use Rattle.thread_actor.specs.Small.{IsHostBelow}
use Rattle.thread_actor.specs.Stands.{IsPolling}
use Rattle.thread_actor.proofs.PollNotes.{Leaves, looks, looks_up, retires, acknowledges}
use Rattle.thread_actor.proofs.Rising.{polls_below, weaken_host}
use Rattle.provider_poll.proofs.Ranges.{position_is}

-- a side as its rule sees it, with its poll that may be about to begin
abbrev pub begun_rule : PollRule → ℕ → PollRule
begun_rule r most = record { host = r.host; seen = r.seen; retirers = r.retirers; state = rules.begun most r.state }

rule_at : (side : PollView) (most : ℕ) (state : PollState) → side.state ≡ state → follows.rule_of (begun_at side most state) ≡ record { host = side.host.side; seen = side.host.seen; retirers = map (λ (q : SendView). q.side) side.queues; state = rules.begun most state }
rule_at side most states.Idle is = refl
rule_at side most (states.Polling asked ends) is = λ i. record { host = side.host.side; seen = side.host.seen; retirers = map (λ (q : SendView). q.side) side.queues; state = is i }
rule_at side most (states.LookingUp asked ends c queue) is = λ i. record { host = side.host.side; seen = side.host.seen; retirers = map (λ (q : SendView). q.side) side.queues; state = is i }
rule_at side most (states.Retiring taken empty left) is = λ i. record { host = side.host.side; seen = side.host.seen; retirers = map (λ (q : SendView). q.side) side.queues; state = is i }
rule_at side most (states.Acking taken empty) is = λ i. record { host = side.host.side; seen = side.host.seen; retirers = map (λ (q : SendView). q.side) side.queues; state = is i }

pub rule_begun : (side : PollView) (most : ℕ) → follows.rule_of (begun side most) ≡ begun_rule (follows.rule_of side) most
rule_begun side most = rule_at side most side.state refl

place_at : (side : PollView) (most : ℕ) (state : PollState) → follows.place_of (begun_at side most state) ≡ follows.place_of side
place_at side most states.Idle = refl
place_at side most (states.Polling asked ends) = refl
place_at side most (states.LookingUp asked ends c queue) = refl
place_at side most (states.Retiring taken empty left) = refl
place_at side most (states.Acking taken empty) = refl

pub place_begun : (side : PollView) (most : ℕ) → follows.place_of (begun side most) ≡ follows.place_of side
place_begun side most = place_at side most side.state

-- the mark of a thread's operation that is this one to the side that polls
abbrev pub to_mark : Lines → ℕ → PollMark → Mark
to_mark d cq (OnHost mark) = OnCompletions cq mark
to_mark d cq (OnQueue index mark) = OnSends (slice_index_or (senders d cq) index 0) mark

-- the queue in whose words an operation is
pub record Served (place : PollPlace) (s : PollRule) (index : ℕ) (mark : WqMark) (e : BusEntry) : Type 0 where
  pub served : SendView
  pub found : slice_get (queues_of place s) index ≡ Some served
  pub serves : MayServe served.place served.side mark e

served_in : (place : PollPlace) (s : PollRule) (queue index : ℕ) (mark : WqMark) (e : BusEntry) → index ≡ queue → MayServeIn place s queue mark e → Served place s index mark e
served_in place s queue index mark e is may = record { served = may.served; found = ap (slice_get (queues_of place s)) is ∙ may.found; serves = may.serves }

serves : (state : PollState) (place : PollPlace) (s : PollRule) (index : ℕ) (mark : WqMark) (e : BusEntry) → MayGoOn state place s (OnQueue index mark) e → Served place s index mark e
serves states.Idle place s index mark e may = absurd may
serves (states.Polling asked ends) place s index mark e may = absurd may
serves (states.LookingUp asked ends c queue) place s index mark e may = served_in place s queue index mark e may.queue_is may.serves
serves (states.Retiring taken empty left) place s index mark e may = first left.items may where
  first : (ends : List End) → MayRetireFirst place s ends index mark e → Served place s index mark e
  first [] may = absurd may
  first (end ∷ rest) may = served_in place s end.queue index mark e may.queue_is may.serves
serves (states.Acking taken empty) place s index mark e may = absurd may

-- the place of a queue among those that lie there
number_at : (qs : List ℕ) (place : ℕ → QueuePlace) (rs : List Retirer) (index : ℕ) (q : SendView) → ((n : ℕ) → (place n).number ≡ n) → slice_get (queues_at (map place qs) rs) index ≡ Some q → slice_get qs index ≡ Some q.number
number_at [] place rs zero q same found = absurd cc
number_at [] place rs (suc index) q same found = absurd cc
number_at (n ∷ qs) place [] zero q same found = absurd cc
number_at (n ∷ qs) place [] (suc index) q same found = absurd cc
number_at (n ∷ qs) place (r ∷ rs) zero q same found = ap Some (sym (same n) ∙ ap number found) where
  number : Option SendView → ℕ
  number None = (place n).number
  number (Some view) = view.number
number_at (n ∷ qs) place (r ∷ rs) (suc index) q same found = number_at qs place rs index q same found

index_or : (ns : List ℕ) (index n : ℕ) → slice_get ns index ≡ Some n → slice_index_or ns index 0 ≡ n
index_or ns index n found = get_or_from_slice_get ns index n 0 found

module _ (d : Lines) (cq : ℕ) (s : PollRule) (e : BusEntry) where
  -- a queue of the side is one of those that complete to it, at its place
  listed : (index : ℕ) (mark : WqMark) (at_queue : Served (poll_place d cq) s index mark e) → slice_get (senders d cq) index ≡ Some at_queue.served.number
  listed index mark at_queue = number_at (senders d cq) (λ (qp : ℕ). record { number = qp; place = send_of d qp }) s.retirers index at_queue.served (λ n. refl) at_queue.found

  placed : (index n : ℕ) → slice_get (senders d cq) index ≡ Some n → position (λ (m : ℕ). m == n) (senders d cq) ≡ Some index
  placed index n found = position_is (completes_to d cq) FIRST_QP (length d.qps) index n found

  -- what the thread's mark is to the side
  pub mark_back : (mark : PollMark) → MayPollSide (poll_place d cq) s mark e → poll_mark d cq (to_mark d cq mark) ≡ mark
  mark_back (OnHost mark) may = refl
  mark_back (OnQueue index mark) may =
      let at_queue = serves s.state (poll_place d cq) s index mark e may in
      let n = at_queue.served.number in
      let there = listed index mark at_queue in
      ap (λ (k : ℕ). OnQueue (place_in d cq k) mark) (index_or (senders d cq) index n there) ∙ ap (λ (o : Option ℕ). OnQueue (unwrap_or o 0) mark) (placed index n there)

  pub on_polled : (mark : PollMark) → MayPollSide (poll_place d cq) s mark e → IsOnPolled d cq (to_mark d cq mark)
  on_polled (OnHost mark) may = refl
  on_polled (OnQueue index mark) may =
      let at_queue = serves s.state (poll_place d cq) s index mark e may in
      let n = at_queue.served.number in
      let there = listed index mark at_queue in
      subst (λ (k : ℕ). position (λ (m : ℕ). m == k) (senders d cq) ≡ Some (place_in d cq k)) (sym (index_or (senders d cq) index n there))
      (placed index n there ∙ ap (λ (o : Option ℕ). Some (unwrap_or o 0)) (sym (placed index n there)))

-- what the operation says, by its mark
abbrev pub said_by : Lines → (cq most : ℕ) → List Completion → PollRule → PollMark → BusEntry → Option What
said_by d cq most given s mark e =
    if is_loading s.state then load_says cq most (given_with given (poll_side_step (poll_place d cq) s mark e).answer) (poll_side_step (poll_place d cq) s mark e).state
    else store_says (to_mark d cq mark)

module _ (d : Lines) (cq most : ℕ) (given : List Completion) (host : Consumer) (seen : ℕ) (retirers : List Retirer) (e : BusEntry) where
  abbrev with_state : PollState → PollRule
  with_state state = record { host = host; seen = seen; retirers = retirers; state = state }

  -- the store of an end
  retired : (queues : List SendView) (taken : ℕ) (empty : Option ℕ) (ends : List End) (s : PollRule) (index n : ℕ) (mark : WqMark) (number : ℕ) → n ≡ number → 0 < taken → MayRetireFirst (poll_place d cq) s ends index mark e
      → Leaves most given (store_says (OnSends n mark)) seen (retired_first queues taken empty ends number)
  retired queues taken empty [] s index n mark number is some may = absurd may
  retired queues taken empty (end ∷ rest) s index n mark number is some may =
      subst (λ (m : WqMark). Leaves most given (store_says (OnSends n m)) seen (after_retire queues taken empty rest number end.end)) (sym may.mark_is)
      (subst (λ (k : ℕ). Leaves most given (Some (Retire (Send k) end.end)) seen (after_retire queues taken empty rest number end.end)) (sym is)
      (retires cq most given seen queues taken empty rest number end.end some))

  -- the queue is that of the thread's mark
  number_is : (s : PollRule) (index : ℕ) (mark : WqMark) (at_queue : Served (poll_place d cq) s index mark e) → slice_index_or (senders d cq) index 0 ≡ at_queue.served.number
  number_is s index mark at_queue = index_or (senders d cq) index at_queue.served.number (listed d cq s e index mark at_queue)

  -- by how far the poll has come
  pub leaves : (state : PollState) (mark : PollMark) → IsPolling most given state → MayGoOn state (poll_place d cq) (with_state state) mark e
      → Leaves most given (said_by d cq most given (with_state state) mark e) (after_poll_side (poll_place d cq) (with_state state) mark e).seen (poll_side_step (poll_place d cq) (with_state state) mark e)
  leaves states.Idle (OnHost mark) polling may = absurd may
  leaves states.Idle (OnQueue index mark) polling may = absurd may
  leaves (states.Polling asked ends) (OnHost mark) polling may =
      let s = with_state (states.Polling asked ends) in
      looks cq most given (queues_of (poll_place d cq) s) asked ends (seen_by (poll_place d cq) s mark e) polling (host_step e (polled (poll_place d cq).cq host mark e))
  leaves (states.Polling asked ends) (OnQueue index mark) polling may = absurd may
  leaves (states.LookingUp asked ends c queue) (OnHost mark) polling may = absurd may
  leaves (states.LookingUp asked ends c queue) (OnQueue index mark) polling may =
      let s = with_state (states.LookingUp asked ends c queue) in
      let at_queue = serves (states.LookingUp asked ends c queue) (poll_place d cq) s index mark e may in
      let qs = queues_at (poll_place d cq).queues (retirers_by (poll_place d cq) s index mark e) in
      subst (λ (o : Option SendView). Leaves most given (load_says cq most (given_with given (asked_with (poll_place d cq) s qs mark e o).answer) (asked_with (poll_place d cq) s qs mark e o).state) seen (asked_with (poll_place d cq) s qs mark e o)) (sym at_queue.found)
      (looks_up cq most given qs asked ends seen polling c queue (retirer_step (is_found (served at_queue.served.place at_queue.served.side mark e))))
  leaves (states.Retiring taken empty left) (OnHost mark) polling may = absurd may
  leaves (states.Retiring taken empty left) (OnQueue index mark) polling may =
      let s = with_state (states.Retiring taken empty left) in
      let at_queue = serves (states.Retiring taken empty left) (poll_place d cq) s index mark e may in
      let qs = queues_at (poll_place d cq).queues (retirers_by (poll_place d cq) s index mark e) in
      subst (λ (o : Option SendView). Leaves most given (store_says (to_mark d cq (OnQueue index mark))) seen (asked_with (poll_place d cq) s qs mark e o)) (sym at_queue.found)
      (retired qs taken empty left.items s index (slice_index_or (senders d cq) index 0) mark at_queue.served.number (number_is s index mark at_queue) polling may)
  leaves (states.Acking taken empty) (OnHost mark) polling may =
      subst (λ (m : QueueMark). Leaves most given (store_says (OnCompletions cq m)) (seen_by (poll_place d cq) (with_state (states.Acking taken empty)) mark e) (after_ack cq taken empty (acked_index (host_step e (polled (poll_place d cq).cq host m e))))) (sym may.index)
      (acknowledges cq most given (seen_by (poll_place d cq) (with_state (states.Acking taken empty)) mark e) taken empty (next_index host) polling)
  leaves (states.Acking taken empty) (OnQueue index mark) polling may = absurd may

-- the host and the poll after an operation
pub state_after : (place : PollPlace) (s : PollRule) (mark : PollMark) (e : BusEntry) → (after_poll_side place s mark e).state ≡ (poll_side_step place s mark e).state
state_after place s (OnHost mark) e = refl
state_after place s (OnQueue index mark) e = refl

host_polls : (state : PollState) (place : PollPlace) (s : PollRule) (mark : QueueMark) (e : BusEntry) → MayGoOn state place s (OnHost mark) e → MayPoll place.cq s.host mark e
host_polls states.Idle place s mark e may = absurd may
host_polls (states.Polling asked ends) place s mark e may = may.polls
host_polls (states.LookingUp asked ends c queue) place s mark e may = absurd may
host_polls (states.Retiring taken empty left) place s mark e may = absurd may
host_polls (states.Acking taken empty) place s mark e may = may.polls

pub host_rises : (bound : ℕ) (place : PollPlace) (s : PollRule) (mark : PollMark) (e : BusEntry) → MayPollSide place s mark e → IsHostBelow bound s.host → IsHostBelow (bound + 64) (after_poll_side place s mark e).host
host_rises bound place s (OnHost mark) e may below = polls_below bound place.cq s.host mark e (host_polls s.state place s mark e may) below
host_rises bound place s (OnQueue index mark) e may below = weaken_host bound s.host below
