use Rattle.srq_list.proofs.Law.{run_is_legal}
use Rattle.srq_list.proofs.laws.stands.Goals as goal

pub returns : goal.returns
returns c = run_is_legal
