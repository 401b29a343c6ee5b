use Rattle.eq_pair.proofs.Law.{run_is_legal}
use Rattle.eq_pair.proofs.laws.stands.Goals as goal

pub returns : goal.returns
returns c = run_is_legal
