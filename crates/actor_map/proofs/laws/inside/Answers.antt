use Rattle.actor_map.proofs.Objects.{inside_of}
use Rattle.actor_map.proofs.laws.inside.Goals as goal

pub returns : goal.returns
returns c = inside_of
