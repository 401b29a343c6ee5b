-- Where an event queue lies, as a ring, and what its register says.
use Rattle.std.specs.Prelude.{ℕ, ◌≡◌, ◌+◌, ◌*◌, ◌^◌, ◌<◌, true}
use Rattle.bus_core.specs.Trace.{Memory}
use Rattle.owner_ring.specs.declared.place.RingPlace.{RingPlace}
use Rattle.owner_ring.specs.Place.{size, slot, record_of}
use Rattle.eq_pair.specs.declared.place.EqPlace.{EqPlace}

-- the ring of its entries, whose consumer index is in the register
abbrev pub ring_of : EqPlace → RingPlace
ring_of place = record { base = place.base; log = place.log; ci = place.reg; event = true }

-- the register's word for a consumer index: the queue's number above the low 24 bits of the index
abbrev pub register_of : EqPlace → ℕ → ℕ
register_of place index = place.number * 2 ^ 24 + record_of index

-- The words of a queue that no event was written to: the owner bit of each entry is 1, which the first round does not own, and the register is 0.
pub record IsFresh (place : EqPlace) (start : Memory) : Type 0 where
  pub register : start place.reg ≡ 0
  pub entries : (n : ℕ) → n < size (ring_of place) → start (slot (ring_of place) n 7) ≡ 1
