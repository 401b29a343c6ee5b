use Rattle.object_places.proofs.Apart.{apart_of}
use Rattle.object_places.proofs.laws.apart.Goals as goal

pub returns : goal.returns
returns c = apart_of c.whole.ensures c.inside.ensures c.apart.ensures
