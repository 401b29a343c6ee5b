-- The parts that are left after those passed so far.
use Rattle.std.proofs.Common.{◌≡◌, drop}
use Rattle.scenario_text.specs.Text.{split}
use Rattle.scenario_text.proofs.parts.part.Given as goal

abbrev pub invariant-loop-passed : goal.invariant-loop-passed
invariant-loop-passed l = l.left ≡ record { separator = l.separator; left = drop l.passed (split l.separator l.bytes) }
