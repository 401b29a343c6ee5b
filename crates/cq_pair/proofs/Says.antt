-- Where the operations of the two sides are, and which events each can say.
use Rattle.std.proofs.Common.{◌≡◌, true, Option, Some, None}
use Rattle.bus_core.specs.declared.operation.BusEntry.{BusEntry}
use Rattle.bus_core.specs.Trace.{Memory}
use Rattle.cqe_format.specs.declared.completion.Cqe.{Cqe}
use Rattle.owner_ring.specs.Place.{touches}
use Rattle.owner_ring.specs.Ring.{RingEvent}
use Rattle.owner_ring.specs.Ring as ring
use Rattle.owner_ring.specs.Consumer.{Consumer, Waiting, Reading}
use Rattle.owner_ring.proofs.Says.{produce_inside, consume_inside}
use Rattle.owner_ring.proofs.Slots.{touches_record}
use Rattle.cq_pair.specs.declared.place.CqPlace.{CqPlace}
use Rattle.cq_pair.specs.Place.{ring_of}
use Rattle.cq_pair.specs.Mark.{QueueMark, Publish, Lose, Look, Read, Take, Acknowledge, Foreign, ring_mark}
use Rattle.cq_pair.specs.Queue.{PlainQueue, QueueEvent, Published, Overrun, Lost, Took, Empty, Acked}
use Rattle.cq_pair.specs.Device.{QueueDevice, MayDeliver, produced, published_as, delivered}
use Rattle.cq_pair.specs.Host.{MayPoll, consumed, took, found, polled}
use Rattle.cq_pair.proofs.Tied.{Tied}

pub deliver_inside : (place : CqPlace) (m : Memory) (d : QueueDevice) (h : Consumer) (q : PlainQueue) (mark : QueueMark) (e : BusEntry) → Tied place m d h q → MayDeliver place d mark e → touches (ring_of place) e.addr ≡ true
deliver_inside place m d h q (Publish completion) e t may = produce_inside (ring_of place) m d.producer h t.entries e t.ring may.ring
deliver_inside place m d h q Lose e t may = rw may.load.at_address (touches_record (ring_of place))
deliver_inside place m d h q (Look i) e t may = absurd may
deliver_inside place m d h q Read e t may = absurd may
deliver_inside place m d h q (Take completion) e t may = absurd may
deliver_inside place m d h q (Acknowledge i) e t may = absurd may
deliver_inside place m d h q Foreign e t may = absurd may

pub poll_inside : (place : CqPlace) (m : Memory) (d : QueueDevice) (h : Consumer) (q : PlainQueue) (mark : QueueMark) (e : BusEntry) → Tied place m d h q → MayPoll place h mark e → touches (ring_of place) e.addr ≡ true
poll_inside place m d h q mark e t may = consume_inside (ring_of place) m d.producer h t.entries (ring_mark mark) e t.ring may.ring

abbrev pub IsDelivering : Option QueueEvent → Type 0
IsDelivering None = Unit {0}
IsDelivering (Some (Published index completion)) = Unit {0}
IsDelivering (Some (Overrun index ci)) = Unit {0}
IsDelivering (Some Lost) = Unit {0}
IsDelivering (Some (Took index completion)) = ⊥
IsDelivering (Some (Empty index)) = ⊥
IsDelivering (Some (Acked ci)) = ⊥

published_says : (completion : Cqe) (said : Option RingEvent) → IsDelivering (published_as completion said)
published_says completion None = tt
published_says completion (Some (ring.Published i ws)) = tt
published_says completion (Some (ring.Full i ci)) = tt
published_says completion (Some (ring.Took i ws)) = tt
published_says completion (Some (ring.Empty i)) = tt
published_says completion (Some (ring.Acked ci)) = tt

pub delivered_says : (place : CqPlace) (d : QueueDevice) (mark : QueueMark) (e : BusEntry) → IsDelivering (delivered place d mark e)
delivered_says place d (Publish completion) e = published_says completion (produced place d e)
delivered_says place d Lose e = tt
delivered_says place d (Look i) e = tt
delivered_says place d Read e = tt
delivered_says place d (Take completion) e = tt
delivered_says place d (Acknowledge i) e = tt
delivered_says place d Foreign e = tt

abbrev pub IsPolling : Option QueueEvent → Type 0
IsPolling None = Unit {0}
IsPolling (Some (Published index completion)) = ⊥
IsPolling (Some (Overrun index ci)) = ⊥
IsPolling (Some Lost) = ⊥
IsPolling (Some (Took index completion)) = Unit {0}
IsPolling (Some (Empty index)) = Unit {0}
IsPolling (Some (Acked ci)) = Unit {0}

found_says : (said : Option RingEvent) → IsPolling (found said)
found_says None = tt
found_says (Some (ring.Published i ws)) = tt
found_says (Some (ring.Full i ci)) = tt
found_says (Some (ring.Took i ws)) = tt
found_says (Some (ring.Empty i)) = tt
found_says (Some (ring.Acked ci)) = tt

took_says : (c : Consumer) (completion : Cqe) → IsPolling (took c completion)
took_says (Waiting acked next) completion = tt
took_says (Reading acked next i last ws) completion = tt

pub polled_says : (place : CqPlace) (c : Consumer) (mark : QueueMark) (e : BusEntry) → IsPolling (polled place c mark e)
polled_says place c (Publish completion) e = tt
polled_says place c Lose e = tt
polled_says place c (Look i) e = found_says (consumed place c (Look i) e)
polled_says place c Read e = tt
polled_says place c (Take completion) e = took_says c completion
polled_says place c (Acknowledge i) e = tt
polled_says place c Foreign e = tt
