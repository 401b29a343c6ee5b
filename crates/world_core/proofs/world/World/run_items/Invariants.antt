-- The turns of the items passed so far.
use Rattle.std.proofs.Common.{◌≡◌, take}
use Rattle.std.specs.List.{flat_map}
use Rattle.scenario_text.specs.Running.{items_of_plan}
use Rattle.world_core.proofs.Plans.{item_turns}
use Rattle.world_core.proofs.world.World.run_items.Given as goal

abbrev pub invariant-loop-index : goal.invariant-loop-index
invariant-loop-index l = l.self ≡ record l.initial.self { turns = flat_map item_turns (take l.index (items_of_plan l.initial.self.parts.plan)) }
