use Rattle.cq_arms.proofs.Kept.{keeps_events}
use Rattle.cq_arms.proofs.laws.keeps_events.Goals as goal

pub returns : goal.returns
returns c = keeps_events
