-- Where a completion queue lies, as a ring.
use Rattle.std.specs.Prelude.{false, slice_index}
use Rattle.owner_ring.specs.declared.place.RingPlace.{RingPlace}
use Rattle.cq_pair.specs.declared.place.CqPlace.{CqPlace}

-- the ring of its first area, whose consumer index is word 0 of the queue's record
abbrev pub ring_of : CqPlace → RingPlace
ring_of place = record { base = slice_index place.areas 0; log = place.log; ci = place.dbr; event = false }
