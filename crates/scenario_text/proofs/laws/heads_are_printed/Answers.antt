-- The printed head is that of the text.
use Rattle.scenario_text.proofs.WholeHead.{head_printed}
use Rattle.scenario_text.proofs.laws.heads_are_printed.Goals as goal

pub returns : goal.returns
returns c = head_printed
