use Rattle.std.proofs.Common.{subst}
use Rattle.scenario_text.specs.Whole.{IsScenario}
use Rattle.scenario_text.proofs.Scenarios.{can_run}
use Rattle.scenario_text.proofs.scenario.Scenario.declared.Goals as goal

pub returns-clause-scenario : goal.returns-clause-scenario
returns-clause-scenario c = can_run c.args.self.now (subst IsScenario c.self.view_is c.self.invariant)
