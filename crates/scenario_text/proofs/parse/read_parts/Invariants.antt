-- What was read so far, and what is left.
use Rattle.std.proofs.Common.{length}
use Rattle.scenario_text.specs.Sofar.{view_of}
use Rattle.scenario_text.proofs.Reading.{Reads}
use Rattle.scenario_text.proofs.parse.read_parts.Given as goal

abbrev pub invariant-loop-rest : goal.invariant-loop-rest
invariant-loop-rest l = Reads l.fn.text (view_of l.sofar) l.rest

abbrev pub decreases-loop-rest : goal.decreases-loop-rest
decreases-loop-rest l = length l.rest
