-- The law: a scenario that can run is ready to be run.
use Rattle.scenario_text.specs.Running.{CanRun}
use Rattle.scenario_text.specs.declared.scenario.ScenarioParts.{ScenarioParts}
use Rattle.ready_scenarios.specs.Ready.{IsReady}
use Rattle.ready_scenarios.proofs.Owned.{own_calls}
use Rattle.ready_scenarios.proofs.Starting.{first_bounded}
use Rattle.ready_scenarios.proofs.Threads.{thread_runs}

pub ready : (s : ScenarioParts) → CanRun s → IsReady s
ready s can = record {
  law = record { declared = can.declared; calls = own_calls s can; bounded = first_bounded s can };
  threads = thread_runs s can;
  words = can.light.words;
}
