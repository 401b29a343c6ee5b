-- The objects that declaration lines make, as lists.
use Rattle.std.specs.Prelude.{ℕ, ◌+◌, List, [], ◌∷◌}
use Rattle.verbs_types.specs.declared.declaration.QpLine.{QpLine}
use Rattle.verbs_types.specs.declared.declaration.Lines.{Lines}
use Rattle.verbs_types.specs.declared.declaration.TheConstants.{FIRST_QP}
use Rattle.verbs_types.specs.declared.state.QueuePair.{QueuePair}
use Rattle.verbs_rules.specs.OfOne.{WorkQueue}
use Rattle.verbs_rules.specs.Start.{first_state}
use Rattle.verbs_model.specs.Queues.{fresh_queue}

-- the send queue and the receive queue of a line
abbrev pub both_queues : QpLine → List WorkQueue
both_queues l = fresh_queue l.send_log l.segments ∷ fresh_queue l.recv_log l.segments ∷ []

-- the queue pair of the line at a place
abbrev pub pair_from : Lines → ℕ × QpLine → QueuePair
pair_from d p = record { state = first_state d (FIRST_QP + p.0); send_cq = p.1.send_cq; recv_cq = p.1.recv_cq }
