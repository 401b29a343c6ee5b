-- The items so far, and the fields that are left.
use Rattle.std.proofs.Common.{◌≡◌, ◌++◌, length, map}
use Rattle.scenario_text.specs.After as after
use Rattle.scenario_text.specs.Sofar.{view_of}
use Rattle.scenario_text.proofs.sofar.Sofar.items.Given as goal

abbrev pub invariant-loop-field : goal.invariant-loop-field
invariant-loop-field l = l.items.items ++ map (after.plan_item (view_of l.self)) l.fields.left ≡ map (after.plan_item (view_of l.self)) l.fn.fields.left

abbrev pub decreases-loop-field : goal.decreases-loop-field
decreases-loop-field l = length l.fields.left
