-- What an operation of the side that polls leaves and tells, by its mark.
use Rattle.std.specs.Prelude.{ℕ, List, [], ◌∷◌, slice_get, slice_set, Option, Some, None}
use Rattle.bus_core.specs.declared.operation.BusEntry.{BusEntry}
use Rattle.bus_core.specs.declared.turn.Step.{Step}
use Rattle.bus_core.specs.declared.turn.Step.TheVariants.{More, Done}
use Rattle.bus_core.specs.Operation.{loaded}
use Rattle.owner_ring.specs.ConsumerView.{seen_after}
use Rattle.cq_pair.specs.declared.host.CqDone.{CqDone}
use Rattle.cq_pair.specs.declared.host.CqDone.TheVariants as host
use Rattle.cq_pair.specs.Place.{ring_of}
use Rattle.cq_pair.specs.Mark.{QueueMark, ring_mark}
use Rattle.cq_pair.specs.Queue.{QueueEvent, Took, Empty, Acked}
use Rattle.cq_pair.specs.Host.{after_poll, polled}
use Rattle.counted_ring.specs.declared.retirer.Retired.{Retired}
use Rattle.counted_ring.specs.Retirer.{Retirer}
use Rattle.counted_ring.specs.RetirerView.{after_serve, served, is_found}
use Rattle.counted_ring.specs.Mark.{WqMark}
use Rattle.provider_poll.specs.declared.state.End.{End}
use Rattle.provider_poll.specs.declared.state.PollState.{PollState}
use Rattle.provider_poll.specs.declared.state.PollState.TheVariants.{Polling, LookingUp, Retiring, Acking}
use Rattle.provider_poll.specs.declared.poll_step.PollStep.{PollStep}
use Rattle.provider_poll.specs.SendQueue.{SendView}
use Rattle.provider_poll.specs.PollStep.{after_look, after_lookup, after_retire, after_ack}
use Rattle.provider_poll.specs.Turns.{acked_index}
use Rattle.provider_poll.specs.Rule.{PollPlace, PollRule, PollMark, OnHost, OnQueue, queues_at, queues_of}

-- what the host answers to an operation that says this
abbrev pub host_step : BusEntry → Option QueueEvent → Step (Unit {0}) CqDone
host_step e (Some (Took index completion)) = Done (host.Took completion)
host_step e (Some (Empty index)) = Done (host.Empty index (loaded e))
host_step e (Some (Acked ci)) = Done (host.Acked ci)
host_step e _ = More

-- what the retirer answers
abbrev pub retirer_step : Option Retired → Step (Unit {0}) Retired
retirer_step None = More
retirer_step (Some answer) = Done answer

-- what an operation that is no poll's leaves
abbrev pub untouched : PollState → PollStep
untouched state = record { state = state; answer = More; noted = None }

-- up to which index the last owner word shows the completion queue as published
abbrev pub seen_by : PollPlace → PollRule → QueueMark → BusEntry → ℕ
seen_by place s mark e = seen_after (ring_of place.cq) (ring_mark mark) s.seen e

abbrev pub looked : PollPlace → PollRule → QueueMark → BusEntry → Step (Unit {0}) CqDone → PollState → PollStep
looked place s mark e step (Polling max ends) = after_look place.cq.number (queues_of place s) max ends (seen_by place s mark e) step
looked place s mark e step (Acking taken empty) = after_ack place.cq.number taken empty (acked_index step)
looked place s mark e step state = untouched state

-- the retirers after an operation on the words of a queue
abbrev pub retirers_with : List Retirer → ℕ → WqMark → BusEntry → Option SendView → List Retirer
retirers_with rs index mark e None = rs
retirers_with rs index mark e (Some q) = slice_set rs index (after_serve q.place q.side mark e)

abbrev pub retirers_by : PollPlace → PollRule → ℕ → WqMark → BusEntry → List Retirer
retirers_by place s index mark e = retirers_with s.retirers index mark e (slice_get (queues_of place s) index)

abbrev pub retired_first : List SendView → ℕ → Option ℕ → List End → ℕ → PollStep
retired_first queues taken empty [] number = untouched (Acking taken empty)
retired_first queues taken empty (end ∷ left) number = after_retire queues taken empty left number end.end

-- by the queue, and by the queues after the operation
abbrev pub asked_in : PollPlace → PollRule → List SendView → WqMark → BusEntry → SendView → PollState → PollStep
asked_in place s queues mark e q (LookingUp max ends c queue) = after_lookup place.cq.number queues max ends s.seen c queue (retirer_step (is_found (served q.place q.side mark e)))
asked_in place s queues mark e q (Retiring taken empty left) = retired_first queues taken empty left.items q.number
asked_in place s queues mark e q state = untouched state

abbrev pub asked_with : PollPlace → PollRule → List SendView → WqMark → BusEntry → Option SendView → PollStep
asked_with place s queues mark e None = untouched s.state
asked_with place s queues mark e (Some q) = asked_in place s queues mark e q s.state

-- the operation's answer and note, and how far the poll has come
abbrev pub poll_side_step : PollPlace → PollRule → PollMark → BusEntry → PollStep
poll_side_step place s (OnHost mark) e = looked place s mark e (host_step e (polled place.cq s.host mark e)) s.state
poll_side_step place s (OnQueue index mark) e = asked_with place s (queues_at place.queues (retirers_by place s index mark e)) mark e (slice_get (queues_of place s) index)

abbrev pub after_poll_side : PollPlace → PollRule → PollMark → BusEntry → PollRule
after_poll_side place s (OnHost mark) e = record {
  host = after_poll place.cq s.host mark e;
  seen = seen_by place s mark e;
  retirers = s.retirers;
  state = (poll_side_step place s (OnHost mark) e).state;
}
after_poll_side place s (OnQueue index mark) e = record s { retirers = retirers_by place s index mark e; state = (poll_side_step place s (OnQueue index mark) e).state }
