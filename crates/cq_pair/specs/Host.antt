-- The rule of the host's side, over its own operations on the queue's words. Its state is that of the ring's consumer.
use Rattle.std.specs.Prelude.{ℕ, ◌≡◌, List, Option, Some, None}
use Rattle.bus_core.specs.declared.operation.BusEntry.{BusEntry}
use Rattle.cqe_format.specs.declared.completion.Cqe.{Cqe}
use Rattle.cqe_format.specs.Bytes.{entry_bytes}
use Rattle.cqe_format.specs.Completion.{IsCqe, IsSomeCqe}
use Rattle.owner_ring.specs.Ring.{RingEvent}
use Rattle.owner_ring.specs.Ring as ring
use Rattle.owner_ring.specs.Consumer.{Consumer, Waiting, Reading, MayConsume, after_consume}
use Rattle.owner_ring.specs.Consumer as ring_side
use Rattle.cq_pair.specs.declared.place.CqPlace.{CqPlace}
use Rattle.cq_pair.specs.Place.{ring_of}
use Rattle.cq_pair.specs.Mark.{QueueMark, Publish, Lose, Look, Read, Take, Acknowledge, Foreign, ring_mark}
use Rattle.cq_pair.specs.Queue.{QueueEvent, Took, Empty, Acked}

-- what the operation says to the ring
abbrev pub consumed : CqPlace → Consumer → QueueMark → BusEntry → Option RingEvent
consumed place c mark e = ring_side.consumed (ring_of place) c (ring_mark mark) e

-- the completion that the words spell, if they spell one
abbrev pub IsReadAs : List ℕ → Cqe → Type 0
IsReadAs words completion = IsSomeCqe (entry_bytes words) → IsCqe completion (entry_bytes words)

-- an entry was taken, and read as this completion
abbrev pub TakesAs : Cqe → Option RingEvent → Type 0
TakesAs completion (Some (ring.Took index words)) = IsReadAs words completion
TakesAs completion _ = ⊥

-- what the mark says of the words that were read
abbrev pub Holds : QueueMark → Option RingEvent → Type 0
Holds (Publish completion) said = ⊥
Holds Lose said = ⊥
Holds (Look index) said = Unit {0}
Holds Read said = said ≡ None
Holds (Take completion) said = TakesAs completion said
Holds (Acknowledge index) said = Unit {0}
Holds Foreign said = ⊥

-- Each operation is the ring's, and the last load of an entry takes the completion that its words spell.
pub record MayPoll (place : CqPlace) (c : Consumer) (mark : QueueMark) (e : BusEntry) : Type 0 where
  pub ring : MayConsume (ring_of place) c (ring_mark mark) e
  pub holds : Holds mark (consumed place c mark e)

abbrev pub after_poll : CqPlace → Consumer → QueueMark → BusEntry → Consumer
after_poll place c mark e = after_consume (ring_of place) c (ring_mark mark) e

abbrev pub took : Consumer → Cqe → Option QueueEvent
took (Waiting acked next) completion = None
took (Reading acked next index last words) completion = Some (Took index completion)

abbrev pub found : Option RingEvent → Option QueueEvent
found (Some (ring.Empty index)) = Some (Empty index)
found (Some (ring.Acked ci)) = Some (Acked ci)
found _ = None

-- what the operation says, if it is a marked one
abbrev pub polled : CqPlace → Consumer → QueueMark → BusEntry → Option QueueEvent
polled place c (Look index) e = found (consumed place c (Look index) e)
polled place c (Take completion) e = took c completion
polled place c (Acknowledge index) e = Some (Acked index)
polled place c _ e = None
