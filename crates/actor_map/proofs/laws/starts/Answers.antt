use Rattle.actor_map.proofs.Pieces.{starts_of}
use Rattle.actor_map.proofs.laws.starts.Goals as goal

pub returns : goal.returns
returns c = starts_of
