-- The turns of the items passed so far.
use Rattle.std.proofs.Common.{◌≡◌, ◌-◌, ◌^◌, min, take}
use Rattle.std.specs.List.{sum_by}
use Rattle.scenario_text.specs.Limits.{times_of}
use Rattle.scenario_text.proofs.bounds.turns_of.Given as goal

abbrev pub invariant-loop-item : goal.invariant-loop-item
invariant-loop-item l = l.turns ≡ min (sum_by times_of (take l.item-index l.items)) (2 ^ 64 - 1)
