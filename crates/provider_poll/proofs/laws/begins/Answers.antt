use Rattle.provider_poll.proofs.Fresh.{begins_as}
use Rattle.provider_poll.proofs.laws.begins.Goals as goal

pub returns : goal.returns
returns c = begins_as
