-- The turns of the items passed so far.
use Rattle.std.proofs.Common.{◌≡◌, take}
use Rattle.std.specs.List.{sum_by}
use Rattle.scenario_text.specs.Limits.{times_of}
use Rattle.world_core.proofs.turns.turns_of_items.Given as goal

abbrev pub invariant-loop-item : goal.invariant-loop-item
invariant-loop-item l = l.turns ≡ sum_by times_of (take l.item-index l.items)
