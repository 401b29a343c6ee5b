-- The parts that are left after those passed so far, of which each was there.
use Rattle.scenario_text.specs.Text.{split}
use Rattle.scenario_text.proofs.Dropping.{Passed}
use Rattle.scenario_text.proofs.parts.has_parts.Given as goal

abbrev pub invariant-loop-passed : goal.invariant-loop-passed
invariant-loop-passed l = Passed (split l.separator l.bytes) l.passed l.left.left
