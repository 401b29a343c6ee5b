use Rattle.actor_map.proofs.Objects.{apart_of}
use Rattle.actor_map.proofs.laws.apart.Goals as goal

pub returns : goal.returns
returns c = apart_of
