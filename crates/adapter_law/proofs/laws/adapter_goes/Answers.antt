use Rattle.adapter_law.proofs.Goes.{adapter_goes}
use Rattle.adapter_law.proofs.laws.adapter_goes.Goals as goal

pub returns : goal.returns
returns c = adapter_goes
