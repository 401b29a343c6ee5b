-- The rule of the device's side, over its own operations on the queue's words.
use Rattle.std.specs.Prelude.{ℕ, ◌≡◌, Bool, true, false, Option, Some, None}
use Rattle.bus_core.specs.declared.operation.BusEntry.{BusEntry}
use Rattle.bus_core.specs.Operation.{IsLoad}
use Rattle.cqe_format.specs.declared.completion.Cqe.{Cqe}
use Rattle.cqe_format.specs.Bytes.{entry_bytes}
use Rattle.cqe_format.specs.Completion.{IsCqe}
use Rattle.owner_ring.specs.Ring.{RingEvent}
use Rattle.owner_ring.specs.Ring as ring
use Rattle.owner_ring.specs.Producer.{Producer, MayProduce, after_produce, seen_after}
use Rattle.owner_ring.specs.Producer as ring_side
use Rattle.cq_pair.specs.declared.place.CqPlace.{CqPlace}
use Rattle.cq_pair.specs.Place.{ring_of}
use Rattle.cq_pair.specs.Mark.{QueueMark, Publish, Lose}
use Rattle.cq_pair.specs.Queue.{QueueEvent, Published, Overrun, Lost}

pub record QueueDevice : Type 0 where
  -- the side as the ring's producer
  pub producer : Producer
  -- whether the queue has overrun
  pub overrun : Bool
  -- the consumer index that the last load of it for a publication showed, at first the index of the first completion
  pub seen : ℕ

-- what a publication's operation says to the ring
abbrev pub produced : CqPlace → QueueDevice → BusEntry → Option RingEvent
produced place d e = ring_side.produced (ring_of place) d.producer e

-- an entry that the ring gets by it is this completion
abbrev pub Spells : Cqe → Option RingEvent → Type 0
Spells completion (Some (ring.Published index words)) = IsCqe completion (entry_bytes words)
Spells completion _ = Unit {0}

pub record MayPublish (place : CqPlace) (d : QueueDevice) (completion : Cqe) (e : BusEntry) : Type 0 where
  pub runs : d.overrun ≡ false
  pub ring : MayProduce (ring_of place) d.producer e
  pub spells : Spells completion (produced place d e)

pub record MayLose (place : CqPlace) (d : QueueDevice) (e : BusEntry) : Type 0 where
  pub stopped : d.overrun ≡ true
  pub load : IsLoad place.dbr e

-- A publication is the ring's, of words that are the completion. A queue that has overrun gets no entry any more: the side only loads the consumer index.
abbrev pub MayDeliver : CqPlace → QueueDevice → QueueMark → BusEntry → Type 0
MayDeliver place d (Publish completion) e = MayPublish place d completion e
MayDeliver place d Lose e = MayLose place d e
MayDeliver place d _ e = ⊥

abbrev pub is_full : Option RingEvent → Bool
is_full (Some (ring.Full index ci)) = true
is_full _ = false

-- the consumer index that it has seen after the operation: a publication begins with a load of it
abbrev pub seen_by : QueueDevice → QueueMark → BusEntry → ℕ
seen_by d (Publish completion) e = seen_after d.producer d.seen e
seen_by d _ e = d.seen

abbrev pub after_deliver : CqPlace → QueueDevice → QueueMark → BusEntry → QueueDevice
after_deliver place d (Publish completion) e = record {
  producer = after_produce (ring_of place) d.producer e;
  overrun = is_full (produced place d e);
  seen = seen_by d (Publish completion) e;
}
after_deliver place d _ e = d

abbrev pub published_as : Cqe → Option RingEvent → Option QueueEvent
published_as completion (Some (ring.Published index words)) = Some (Published index completion)
published_as completion (Some (ring.Full index ci)) = Some (Overrun index ci)
published_as completion _ = None

-- what the operation says, if it is a marked one
abbrev pub delivered : CqPlace → QueueDevice → QueueMark → BusEntry → Option QueueEvent
delivered place d (Publish completion) e = published_as completion (produced place d e)
delivered place d Lose e = Some Lost
delivered place d _ e = None
