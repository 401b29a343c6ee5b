-- The segments so far, and the fields that are left.
use Rattle.std.proofs.Common.{◌≡◌, ◌++◌, length, map}
use Rattle.scenario_text.specs.Segments.{segment_in}
use Rattle.scenario_text.proofs.calls.segments.Given as goal

abbrev pub invariant-loop-field : goal.invariant-loop-field
invariant-loop-field l = l.sges.items ++ map segment_in l.fields.left ≡ map segment_in l.fn.fields.left

abbrev pub decreases-loop-field : goal.decreases-loop-field
decreases-loop-field l = length l.fields.left
