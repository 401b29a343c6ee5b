use Rattle.history_laws.proofs.Fronts as fronts
use Rattle.history_laws.proofs.laws.each_was_posted.Goals as goal

pub returns : goal.returns
returns c = fronts.each_was_posted
