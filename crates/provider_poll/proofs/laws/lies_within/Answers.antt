use Rattle.provider_poll.proofs.Fresh as fresh
use Rattle.provider_poll.proofs.laws.lies_within.Goals as goal

pub returns : goal.returns
returns c = λ d cq declared among. fresh.lies_within c.whole.ensures c.inside.ensures d declared cq among
