use Rattle.eq_pair.proofs.Kept.{keeps_events}
use Rattle.eq_pair.proofs.laws.keeps_events.Goals as goal

pub returns : goal.returns
returns c = keeps_events
