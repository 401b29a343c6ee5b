use Rattle.object_places.proofs.Apart.{placed_of}
use Rattle.object_places.proofs.laws.places.Goals as goal

pub returns : goal.returns
returns c = placed_of c.whole.ensures c.inside.ensures
