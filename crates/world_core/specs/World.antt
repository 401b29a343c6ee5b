-- What a world is to a caller: the scenario, and whose turns were made.
use Rattle.std.specs.Prelude.{ℕ, List, Option, None, Some, replicate}
use Rattle.std.specs.List.{flat_map}
use Rattle.scenario_text.specs.declared.scenario.Plan.{Plan}
use Rattle.scenario_text.specs.declared.scenario.Plan.TheVariants.{Idle, Schedule, Rounds}
use Rattle.scenario_text.specs.declared.scenario.PlanItem.{PlanItem}
use Rattle.scenario_text.specs.declared.scenario.ScenarioParts.{ScenarioParts}
use Rattle.scenario_text.specs.Limits.{times_of}

pub record WorldView : Type 0 where
  pub parts : ScenarioParts
  -- the actor of each turn that was made
  pub turns : List ℕ

-- how many rounds a plan has that is one of rounds
abbrev pub rounds_of_plan : Plan → Option ℕ
rounds_of_plan Idle = None
rounds_of_plan (Schedule items) = None
rounds_of_plan (Rounds n) = Some n

-- the actor of each turn of the items of a plan
abbrev pub turns_of_items : List PlanItem → List ℕ
turns_of_items items = flat_map (λ (i : PlanItem). replicate (times_of i) i.actor) items
