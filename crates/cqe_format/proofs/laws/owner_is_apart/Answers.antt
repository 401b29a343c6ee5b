use Rattle.cqe_format.proofs.Owners.{completion_apart, event_apart}
use Rattle.cqe_format.proofs.laws.owner_is_apart.Goals as goal

pub returns-clause-completion : goal.returns-clause-completion
returns-clause-completion c = completion_apart

pub returns-clause-event : goal.returns-clause-event
returns-clause-event c = event_apart
