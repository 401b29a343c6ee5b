use Rattle.cq_pair.proofs.Law.{run_is_legal}
use Rattle.cq_pair.proofs.laws.stands.Goals as goal

pub returns : goal.returns
returns c = run_is_legal
