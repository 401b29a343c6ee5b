use Rattle.object_places.proofs.Start.{start_of}
use Rattle.object_places.proofs.laws.starts.Goals as goal

pub returns : goal.returns
returns c = start_of c.starts.ensures c.named.ensures
