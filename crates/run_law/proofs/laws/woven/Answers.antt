use Rattle.run_law.proofs.Law.{woven}
use Rattle.run_law.proofs.laws.woven.Goals as goal

pub returns : goal.returns
returns c = woven c.operations_go.ensures c.places.ensures c.apart.ensures c.starts.ensures
