-- The limits of the segments passed so far were noted.
use Rattle.std.proofs.Common.{length}
use Rattle.scenario_text.specs.Sofar.{view_of}
use Rattle.scenario_text.proofs.Noting.{Noting}
use Rattle.scenario_text.proofs.sofar.Sofar.note_segments.Given as goal

abbrev pub invariant-loop-field : goal.invariant-loop-field
invariant-loop-field l = Noting (view_of l.fn.self) (view_of l.self) l.most l.place l.before l.fields.left l.fn.fields.left

abbrev pub decreases-loop-field : goal.decreases-loop-field
decreases-loop-field l = length l.fields.left
