use Rattle.device_engine.proofs.Whole.{visit_is_whole}
use Rattle.device_engine.proofs.laws.visits_are_whole.Goals as goal

pub returns : goal.returns
returns c = visit_is_whole
