-- A completion queue as an object of two sides, and the traces that the law speaks of.
use Rattle.std.specs.Prelude.{ℕ, List, false}
use Rattle.bus_core.specs.Mark.{Marked}
use Rattle.bus_core.specs.Trace.{Memory}
use Rattle.bus_core.specs.TwoSides as two
use Rattle.bus_core.specs.TwoSides.{Object, IsRunOf}
use Rattle.owner_ring.specs.Place.{size, touches, IsPlace}
use Rattle.owner_ring.specs.Law.{IsStart}
use Rattle.owner_ring.specs.Producer.{Ready}
use Rattle.owner_ring.specs.Consumer.{Consumer, Waiting}
use Rattle.cq_pair.specs.declared.place.CqPlace.{CqPlace}
use Rattle.cq_pair.specs.Place.{ring_of}
use Rattle.cq_pair.specs.Mark.{QueueMark, role_of}
use Rattle.cq_pair.specs.Queue.{PlainQueue, QueueEvent, MayHappen, after_event}
use Rattle.cq_pair.specs.Device.{QueueDevice, MayDeliver, after_deliver, delivered}
use Rattle.cq_pair.specs.Host.{MayPoll, after_poll, polled}

abbrev pub queue_object : CqPlace → Object (Marked QueueMark) QueueDevice Consumer PlainQueue QueueEvent
queue_object place = record {
  entry = λ x. x.entry;
  role = λ x. role_of x.mark;
  touches = touches (ring_of place);
  may_device = λ d x. MayDeliver place d x.mark x.entry;
  after_device = λ d x. after_deliver place d x.mark x.entry;
  device_says = λ d x. delivered place d x.mark x.entry;
  may_host = λ c x. MayPoll place c x.mark x.entry;
  after_host = λ c x. after_poll place c x.mark x.entry;
  host_says = λ c x. polled place c x.mark x.entry;
  may = MayHappen (size (ring_of place));
  after = after_event;
}

-- the sides before their first operation, with this index
abbrev pub fresh_device : ℕ → QueueDevice
fresh_device index = record { producer = Ready index; overrun = false; seen = index }

abbrev pub fresh_host : ℕ → Consumer
fresh_host index = Waiting index index

-- a consistent trace of a queue whose two sides keep their rules, while nobody else writes its words
pub record IsRun (place : CqPlace) (index : ℕ) (start : Memory) (trace : List (Marked QueueMark)) : Type 0 where
  pub place_ok : IsPlace (ring_of place)
  pub start_ok : IsStart (ring_of place) index start
  pub run : IsRunOf (queue_object place) (fresh_device index) (fresh_host index) start trace

-- what the marked operations of a trace say, in order
abbrev pub history : CqPlace → ℕ → List (Marked QueueMark) → List QueueEvent
history place index trace = two.history (queue_object place) (fresh_device index) (fresh_host index) trace
