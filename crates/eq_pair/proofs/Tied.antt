-- What ties the words, the two sides and the list of events, and what keeps it.
use Rattle.std.proofs.Common.{◌≡◌, ℕ, ◌+◌, ◌≤◌, refl, ◌∙◌, sym, true, List, [], ◌∷◌, length, Option, Some, None}
use Rattle.bus_core.specs.Trace.{Memory}
use Rattle.verbs_types.specs.declared.completion.EventRecord.{EventRecord}
use Rattle.cqe_format.specs.Bytes.{entry_bytes}
use Rattle.cqe_format.specs.Event.{IsEqe}
use Rattle.owner_ring.specs.Place.{size, touches}
use Rattle.owner_ring.specs.Ring.{Ring, published}
use Rattle.owner_ring.specs.Producer.{Producer, Ready, Filling}
use Rattle.owner_ring.specs.Consumer.{acked_index}
use Rattle.owner_ring.proofs.Tied as ring_tied
use Rattle.owner_ring.proofs.Tied.{entry_at, known}
use Rattle.eq_pair.specs.declared.place.EqPlace.{EqPlace}
use Rattle.eq_pair.specs.Place.{ring_of}
use Rattle.eq_pair.specs.Queue.{EventList, EqEvent, IsWritten, MayHappen, after_event}
use Rattle.eq_pair.specs.Device.{EventWriter}
use Rattle.eq_pair.specs.Host.{EventTaker, Waiting, Reading, Holding, next_index, consumer_of}

-- the ring's producer of a side: it is open for the entry that it stores words of
abbrev pub producer_at : ℕ → List ℕ → Producer
producer_at index [] = Ready index
producer_at index (word ∷ words) = Filling index (word ∷ words)

abbrev pub producer_of : EventWriter → Producer
producer_of d = producer_at d.index d.words

-- each event that was not given is what its entry spells
abbrev pub AllSpelled : EventList → Ring → Type 0
AllSpelled q entries = (n : ℕ) (event : EventRecord) → entries.acked ≤ n → IsWritten q n event → IsEqe event (entry_bytes (entry_at entries n))

-- the event that is held is the one of its index
abbrev pub TakerFits : EventTaker → EventList → Type 0
TakerFits (Waiting index) q = Unit {0}
TakerFits (Reading index last words) q = Unit {0}
TakerFits (Holding index event) q = (q.taken ≡ index + 1) × IsWritten q index event

-- what stands beside the ring
pub record Fits (entries : Ring) (h : EventTaker) (q : EventList) : Type 0 where
  pub given : q.given ≡ entries.acked
  pub count : length q.written ≡ published entries
  pub spelled : AllSpelled q entries
  pub taker : TakerFits h q

pub record Tied (place : EqPlace) (m : Memory) (d : EventWriter) (h : EventTaker) (q : EventList) : Type 0 where
  pub entries : Ring
  pub ring : ring_tied.Tied (ring_of place) m (producer_of d) (consumer_of h) entries
  pub fits : Fits entries h q

-- what an operation makes of this, with what it says
abbrev pub Goes : EqPlace → Memory → EventWriter → EventTaker → EventList → Option EqEvent → Type 0
Goes place m d h q None = Tied place m d h q
Goes place m d h q (Some event) = MayHappen (size (ring_of place)) q event × Tied place m d h (after_event q event)

-- what leaves the queue's words alone keeps it
pub Tied_kept : (place : EqPlace) (m m' : Memory) (d : EventWriter) (h : EventTaker) (q : EventList) → ((a : ℕ) → touches (ring_of place) a ≡ true → m' a ≡ m a) → Tied place m d h q → Tied place m' d h q
Tied_kept place m m' d h q same t = record { entries = t.entries; ring = ring_tied.Tied_kept (ring_of place) m m' (producer_of d) (consumer_of h) t.entries same t.ring; fits = t.fits }

same_next : (h : EventTaker) → acked_index (consumer_of h) ≡ next_index h
same_next (Waiting index) = refl
same_next (Reading index last words) = refl
same_next (Holding index event) = refl

-- the register shows the index that is given next
pub next_given : (place : EqPlace) (m : Memory) (d : EventWriter) (h : EventTaker) (q : EventList) (t : Tied place m d h q) → next_index h ≡ t.entries.acked
next_given place m d h q t = sym (same_next h) ∙ (known t.entries (consumer_of h) t.ring.consumer).acked_is
