-- The completion queues of the lines so far.
use Rattle.std.proofs.Common.{◌≡◌, map, take}
use Rattle.verbs_model.specs.Queues.{fresh_completions}
use Rattle.verbs_model.proofs.abstract_state.beginning.first_completions.Given as goal

abbrev pub invariant-loop-line : goal.invariant-loop-line
invariant-loop-line l = l.completions.items ≡ map fresh_completions (take l.line-index l.lines.cqs)
