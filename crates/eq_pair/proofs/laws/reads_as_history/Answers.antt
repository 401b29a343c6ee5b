use Rattle.eq_pair.proofs.Rows.{reads_as_history, stays_ordered}
use Rattle.eq_pair.proofs.laws.reads_as_history.Goals as goal

pub returns-clause-steps : goal.returns-clause-steps
returns-clause-steps c = reads_as_history

pub returns-clause-ordered : goal.returns-clause-ordered
returns-clause-ordered c = stays_ordered
