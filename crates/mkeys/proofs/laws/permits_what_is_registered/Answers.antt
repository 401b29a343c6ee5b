use Rattle.mkeys.proofs.KeyHistory.{permits_registered}
use Rattle.mkeys.proofs.laws.permits_what_is_registered.Goals as goal

pub returns : goal.returns
returns c = permits_registered
