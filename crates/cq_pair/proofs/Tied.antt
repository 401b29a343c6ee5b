-- What ties the words, the two sides and the list of completions, and what keeps it.
use Rattle.std.proofs.Common.{◌≡◌, ℕ, ◌≤◌, arith, true, Option, Some, None}
use Rattle.bus_core.specs.Trace.{Memory}
use Rattle.owner_ring.specs.Place.{size, touches}
use Rattle.owner_ring.specs.Ring.{Ring}
use Rattle.owner_ring.specs.Ring as ring
use Rattle.owner_ring.specs.Consumer.{Consumer, Waiting, Reading, next_index}
use Rattle.owner_ring.proofs.Tied as ring_tied
use Rattle.owner_ring.proofs.Seeing.{Sees}
use Rattle.cq_pair.specs.declared.place.CqPlace.{CqPlace}
use Rattle.cq_pair.specs.Place.{ring_of}
use Rattle.cq_pair.specs.Queue.{PlainQueue, QueueEvent, produced, MayHappen, after_event}
use Rattle.cq_pair.specs.Device.{QueueDevice}
use Rattle.cq_pair.proofs.Spelled.{AllSpelled, same_length}

-- an entry that is read is one that may be polled
abbrev pub IsWithin : Consumer → Type 0
IsWithin (Waiting acked next) = Unit {0}
IsWithin (Reading acked next index last words) = index ≤ next

-- what stands beside the ring
pub record Fits (entries : Ring) (d : QueueDevice) (h : Consumer) (q : PlainQueue) : Type 0 where
  pub acked : q.acked ≡ entries.acked
  pub spelled : AllSpelled q.completions entries.entries
  pub overrun : q.overrun ≡ d.overrun
  pub polled : q.polled ≡ next_index h
  pub within : IsWithin h

pub record Tied (place : CqPlace) (m : Memory) (d : QueueDevice) (h : Consumer) (q : PlainQueue) : Type 0 where
  pub entries : Ring
  pub ring : ring_tied.Tied (ring_of place) m d.producer h entries
  pub sees : Sees (ring_of place) d.producer entries d.seen
  pub fits : Fits entries d h q

-- what an operation makes of this, with what it says
abbrev pub Goes : CqPlace → Memory → QueueDevice → Consumer → PlainQueue → Option QueueEvent → Type 0
Goes place m d h q None = Tied place m d h q
Goes place m d h q (Some event) = MayHappen (size (ring_of place)) q event × Tied place m d h (after_event q event)

pub Tied_kept : (place : CqPlace) (m m' : Memory) (d : QueueDevice) (h : Consumer) (q : PlainQueue) → ((a : ℕ) → touches (ring_of place) a ≡ true → m' a ≡ m a) → Tied place m d h q → Tied place m' d h q
Tied_kept place m m' d h q same t = record { entries = t.entries; ring = ring_tied.Tied_kept (ring_of place) m m' d.producer h t.entries same t.ring; sees = t.sees; fits = t.fits }

-- the queue has as many completions as the ring has entries
pub same_produced : (entries : Ring) (d : QueueDevice) (h : Consumer) (q : PlainQueue) → Fits entries d h q → produced q ≡ ring.published entries
same_produced entries d h q f = omega (arith, f.acked, same_length q.completions entries.entries f.spelled)
