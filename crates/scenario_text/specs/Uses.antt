-- What the lines so far say of the objects that a line names.
use Rattle.std.specs.Prelude.{ℕ, ◌-◌, Bool, true, false, nat_lt, Option, None, Some, slice_get}
use Rattle.std.specs.Option.{unwrap_or, option_map_or}
use Rattle.verbs_types.specs.declared.declaration.QpLine.{QpLine}
use Rattle.verbs_types.specs.declared.declaration.TheConstants.{FIRST_QP}
use Rattle.scenario_text.specs.Calls.{segments_of}
use Rattle.scenario_text.specs.Text.{Field}
use Rattle.scenario_text.specs.Naming.{number_named}
use Rattle.scenario_text.specs.Sofar.{Said}
use Rattle.scenario_text.specs.declared.slot.Kind.{Kind}
use Rattle.scenario_text.specs.declared.slot.Kind.TheVariants as kinds
use Rattle.scenario_text.specs.declared.sofar.PairUse.{PairUse}
use Rattle.scenario_text.specs.declared.sofar.Place.{Place}
use Rattle.scenario_text.specs.declared.sofar.Place.TheVariants.{InPost, InRecv}
use Rattle.scenario_text.specs.declared.sofar.QueueUse.{QueueUse}

-- the number of the object of this kind, or of the actor, with this name; 0 where there is none
abbrev pub named : Said → Kind → Field → ℕ
named s kind name = unwrap_or (number_named s.names kind name) 0

abbrev pub qp_named : Said → Field → ℕ
qp_named s name = named s kinds.Qp name

abbrev pub cq_named : Said → Field → ℕ
cq_named s name = named s kinds.Cq name

-- how a queue pair is used; one that is not declared is not used
abbrev pub pair_use : Said → ℕ → PairUse
pair_use s qp = unwrap_or (slice_get s.pairs (qp - FIRST_QP)) (record { connected = false; poster = None; receiver = None })

-- how a completion queue is used; one that is not declared has no room
abbrev pub queue_use : Said → ℕ → QueueUse
queue_use s cq = unwrap_or (slice_get s.queues cq) (record { poller = None; room = 0 })

-- the completion queues of a queue pair's send queue and of its receive queue
abbrev pub send_cq_of : Said → ℕ → ℕ
send_cq_of s qp = option_map_or (λ (l : QpLine). l.send_cq) (slice_get s.lines.qps (qp - FIRST_QP)) 0

abbrev pub recv_cq_of : Said → ℕ → ℕ
recv_cq_of s qp = option_map_or (λ (l : QpLine). l.recv_cq) (slice_get s.lines.qps (qp - FIRST_QP)) 0

-- the completion queue of the list of requests or receives in which the next line stands
abbrev pub list_cq_in : Said → Place → Option ℕ
list_cq_in s (InPost qp) = Some (send_cq_of s qp)
list_cq_in s (InRecv qp) = Some (recv_cq_of s qp)
list_cq_in s _ = None

abbrev pub list_cq : Said → Option ℕ
list_cq s = list_cq_in s s.place

-- that queue has room for one more completion
abbrev pub has_room : Said → Bool
has_room s = option_map_or (λ cq. nat_lt 0 (queue_use s cq).room) (list_cq s) true

-- the most segments of an item of the list
abbrev pub segments_in : Said → Place → ℕ
segments_in s (InPost qp) = segments_of s.lines qp
segments_in s (InRecv qp) = segments_of s.lines qp
segments_in s _ = 0

abbrev pub segments_here : Said → ℕ
segments_here s = segments_in s s.place
