use Rattle.actor_map.proofs.Named.{named_of}
use Rattle.actor_map.proofs.laws.named.Goals as goal

pub returns : goal.returns
returns c = named_of
