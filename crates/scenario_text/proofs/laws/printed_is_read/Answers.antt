-- What is printed says the scenario.
use Rattle.scenario_text.proofs.WholeText.{printed_read}
use Rattle.scenario_text.proofs.laws.printed_is_read.Goals as goal

pub returns : goal.returns
returns c = printed_read
