use Rattle.actor_map.proofs.Objects.{whole_of}
use Rattle.actor_map.proofs.laws.whole.Goals as goal

pub returns : goal.returns
returns c = whole_of
