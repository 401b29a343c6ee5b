use Rattle.cq_pair.proofs.Seeing.{run_sees_enough}
use Rattle.cq_pair.proofs.laws.sees_enough.Goals as goal

pub returns : goal.returns
returns c = run_sees_enough
