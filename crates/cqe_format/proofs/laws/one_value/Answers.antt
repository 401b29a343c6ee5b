use Rattle.cqe_format.proofs.Values.{one_completion, one_event}
use Rattle.cqe_format.proofs.laws.one_value.Goals as goal

pub returns-clause-completion : goal.returns-clause-completion
returns-clause-completion c = one_completion

pub returns-clause-event : goal.returns-clause-event
returns-clause-event c = one_event
