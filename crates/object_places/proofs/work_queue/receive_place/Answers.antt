use Rattle.std.proofs.Common.{sym, subst}
use Rattle.counted_ring.specs.declared.place.WqPlace.{WqPlace}
use Rattle.counted_ring.specs.Place.{IsPlace}
use Rattle.object_places.proofs.Fine.{receives_fine}
use Rattle.object_places.proofs.work_queue.receive_place.Goals as goal

pub returns-clause-fine : goal.returns-clause-fine
returns-clause-fine c = subst (λ (p : WqPlace). IsPlace p) (sym c.receives_from.ensures) (receives_fine c.first_of.result c.line_of.result.now c.line_of.ensures.size)
