-- A scenario can run.
use Rattle.scenario_text.specs.Running.{CanRun}
use Rattle.scenario_text.specs.Whole.{IsScenario}
use Rattle.scenario_text.specs.declared.scenario.ScenarioParts.{ScenarioParts}
use Rattle.scenario_text.proofs.AllLines.{says_runs}

pub can_run : (s : ScenarioParts) → IsScenario s → CanRun s
can_run s h = says_runs h.0 s h.1
