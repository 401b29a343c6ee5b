-- The queues of the lines so far.
use Rattle.std.proofs.Common.{◌≡◌, map, take, flat_map}
use Rattle.verbs_model.specs.Beginning.{both_queues}
use Rattle.verbs_model.specs.Ends.{queue_of}
use Rattle.verbs_model.proofs.abstract_state.beginning.first_queues.Given as goal

abbrev pub invariant-loop-line : goal.invariant-loop-line
invariant-loop-line l = map queue_of l.queues.items ≡ flat_map both_queues (take l.line-index l.lines.qps)
