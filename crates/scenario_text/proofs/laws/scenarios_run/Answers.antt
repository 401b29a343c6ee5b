-- What a text says can run.
use Rattle.scenario_text.proofs.AllLines.{says_runs}
use Rattle.scenario_text.proofs.laws.scenarios_run.Goals as goal

pub returns : goal.returns
returns c = says_runs
