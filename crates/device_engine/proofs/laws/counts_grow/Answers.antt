use Rattle.device_engine.proofs.Growing.{counts_grow}
use Rattle.device_engine.proofs.laws.counts_grow.Goals as goal

pub returns : goal.returns
returns c = counts_grow
