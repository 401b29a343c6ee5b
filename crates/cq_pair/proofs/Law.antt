-- The law of a completion queue.
use Rattle.std.proofs.Common.{ℕ, refl, arith, List, Option, Some, None}
use Rattle.bus_core.specs.Mark.{Marked}
use Rattle.bus_core.specs.Trace.{Memory}
use Rattle.bus_core.proofs.TwoSided.{Advances, law_of}
use Rattle.owner_ring.specs.Place.{size}
use Rattle.owner_ring.specs.Law.{IsStart}
use Rattle.owner_ring.specs.Ring.{empty_ring}
use Rattle.owner_ring.specs.Consumer.{Consumer}
use Rattle.owner_ring.proofs.Law as ring_law
use Rattle.cq_pair.specs.declared.place.CqPlace.{CqPlace}
use Rattle.cq_pair.specs.Place.{ring_of}
use Rattle.cq_pair.specs.Mark.{QueueMark}
use Rattle.cq_pair.specs.Queue.{PlainQueue, QueueEvent, empty_queue, IsLegal}
use Rattle.cq_pair.specs.Device.{QueueDevice}
use Rattle.cq_pair.specs.Law.{queue_object, fresh_device, fresh_host, IsRun, history}
use Rattle.cq_pair.proofs.Tied.{Tied, Tied_kept, Goes}
use Rattle.cq_pair.proofs.DeviceStep.{device_step}
use Rattle.cq_pair.proofs.HostStep.{host_step}

advances : (place : CqPlace) (m : Memory) (d : QueueDevice) (h : Consumer) (q : PlainQueue) (said : Option QueueEvent) → Goes place m d h q said → Advances (queue_object place) (Tied place) m d h q said
advances place m d h q None g = g
advances place m d h q (Some event) g = g

-- at the start the list is empty
pub start_tied : (place : CqPlace) (index : ℕ) (start : Memory) → IsStart (ring_of place) index start → Tied place start (fresh_device index) (fresh_host index) (empty_queue index)
start_tied place index start s = record {
  entries = empty_ring index;
  ring = ring_law.start_tied (ring_of place) index start s;
  sees = record { least = omega arith; room = tt };
  fits = record { acked = refl; spelled = tt; overrun = refl; polled = refl; within = tt };
}

pub run_is_legal : (place : CqPlace) (index : ℕ) (start : Memory) (trace : List (Marked QueueMark)) → IsRun place index start trace → IsLegal (size (ring_of place)) (empty_queue index) (history place index trace)
run_is_legal place index start trace r =
    law_of (queue_object place) (Tied place) (λ m m' d h q same t. Tied_kept place m m' d h q same t)
    (λ m d h q x t tells may. advances place _ _ h q _ (device_step place m d h q x.mark x.entry r.place_ok t tells may))
    (λ m d h q x t tells may. advances place _ d _ q _ (host_step place m d h q x.mark x.entry r.place_ok t tells may))
    trace start (fresh_device index) (fresh_host index) (empty_queue index) (start_tied place index start r.start_ok) r.run
