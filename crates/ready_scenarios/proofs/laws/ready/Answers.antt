use Rattle.ready_scenarios.proofs.Ready.{ready}
use Rattle.ready_scenarios.proofs.laws.ready.Goals as goal

pub returns : goal.returns
returns c = ready
