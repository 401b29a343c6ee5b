-- The head says what is declared.
use Rattle.scenario_text.proofs.HeadsAlone.{head_read}
use Rattle.scenario_text.proofs.laws.heads_are_read.Goals as goal

pub returns : goal.returns
returns c = head_read
