-- The fields that are left say whether there is one.
use Rattle.std.proofs.Common.{◌≡◌, length}
use Rattle.std.specs.List.{list_any}
use Rattle.scenario_text.specs.Segments.{is_later}
use Rattle.scenario_text.proofs.built.any_later.Given as goal

abbrev pub invariant-loop-field : goal.invariant-loop-field
invariant-loop-field l = list_any is_later l.fields.left ≡ list_any is_later l.fn.fields.left

abbrev pub decreases-loop-field : goal.decreases-loop-field
decreases-loop-field l = length l.fields.left
