-- How the fields of a world are seen, and what they keep.
use Rattle.std.specs.Prelude.{◌≡◌, List}
use Rattle.verbs_types.specs.declared.call.Call.{Call}
use Rattle.verbs_rules.specs.Start.{start}
use Rattle.verbs_rules.specs.State.{Verbs}
use Rattle.verbs_model.specs.Tables.{state_of}
use Rattle.scenario_text.specs.declared.scenario.Plan.{Plan}
use Rattle.scenario_text.specs.declared.scenario.ScenarioParts.{ScenarioParts}
use Rattle.scenario_text.specs.Running.{CanRun}
use Rattle.world_core.specs.declared.world.World.TheInside.{Inside}
use Rattle.world_core.specs.Holding.{Holds}
use Rattle.world_core.specs.Run.{RunView}
use Rattle.world_core.specs.RunInside.{run_view}
use Rattle.world_core.specs.World.{WorldView}

abbrev pub world_view : Inside → WorldView
world_view w = record { parts = w.scenario.value; turns = w.run.log.turns }

-- a world of a scenario that can run
pub record IsWorldOf (s : ScenarioParts) (programs : List (List Call)) (plan : Plan) (first : Verbs) (run : RunView) : Type 0 where
  pub scenario : CanRun s
  pub programs_are : programs ≡ s.programs
  pub plan_is : plan ≡ s.plan
  pub first_is : first ≡ start s.lines
  pub holds : Holds s run

abbrev pub IsWorld : Inside → Type 0
IsWorld w = IsWorldOf w.scenario.value w.programs.items w.plan (state_of w.first) (run_view w.run)
