use Rattle.cq_arms.proofs.Law.{run_is_legal}
use Rattle.cq_arms.proofs.laws.stands.Goals as goal

pub returns : goal.returns
returns c = run_is_legal
