-- The object of the next number, where a command asks for it as it is declared.
use Rattle.std.specs.Prelude.{ℕ, ◌+◌, ◌==◌, ◌&&◌, nat_lt, Bool, false, length, Option, Some, None, slice_get, cond}
use Rattle.std.specs.Option.{option_map_or}
use Rattle.verbs_types.specs.declared.declaration.Object.{Object}
use Rattle.verbs_types.specs.declared.declaration.Object.TheVariants.{Eq, Cq, Qp}
use Rattle.verbs_types.specs.declared.declaration.TheConstants.{FIRST_QP}
use Rattle.cmd_bodies.specs.declared.contexts.EqBlock.{EqBlock}
use Rattle.cmd_bodies.specs.declared.contexts.CqContext.{CqContext}
use Rattle.cmd_bodies.specs.declared.contexts.QpBlock.{QpBlock}
use Rattle.device_commands.specs.declared.shapes.EqShape.{EqShape}
use Rattle.device_commands.specs.declared.shapes.CqShape.{CqShape}
use Rattle.device_commands.specs.declared.shapes.QpShape.{QpShape}
use Rattle.device_commands.specs.Objects.{Objects}

abbrev pub only_if : {X : Type 0} → (X → Bool) → Option X → Option X
only_if test None = None
only_if test (Some x) = cond (test x) (Some x) None

-- whether the parameters of a command are those of a declared object
abbrev pub is_eq_of : EqBlock → EqShape → Bool
is_eq_of asked shape = asked.log == shape.log

abbrev pub is_cq_of : CqContext → CqShape → Bool
is_cq_of asked shape = (asked.cqe_sz == 0) && (asked.log_cq_size == shape.log) && (asked.c_eqn == shape.eq)

abbrev pub is_qp_of : QpBlock → QpShape → Bool
is_qp_of asked shape =
    (asked.pd == shape.pd) && (asked.send_cq == shape.send_cq) && (asked.recv_cq == shape.recv_cq)
    && (asked.send_log == shape.send_log) && (asked.recv_log == shape.recv_log) && (asked.segments == shape.segments)

abbrev pub is_same : Object → Object → Bool
is_same (Eq n) (Eq m) = n == m
is_same (Cq n) (Cq m) = n == m
is_same (Qp n) (Qp m) = n == m
is_same _ _ = false

-- whether the doorbell page is the one for this object: its place among all that have one, in declared order
abbrev pub is_page_of : Objects → ℕ → Object → Bool
is_page_of o page object = option_map_or (λ owner. is_same owner object) (slice_get o.declared.owners page) false

-- one doorbell page for each event queue, completion queue and queue pair
abbrev pub page_count : Objects → ℕ
page_count o = length o.declared.eqs + length o.declared.cqs + length o.declared.qps

abbrev pub has_next_pd : Objects → Bool
has_next_pd o = nat_lt (length o.pds) o.declared.pds

abbrev pub has_next_uar : Objects → Bool
has_next_uar o = nat_lt (length o.uars) (page_count o)

abbrev pub next_eq : Objects → EqBlock → Option EqShape
next_eq o asked = only_if (λ shape. is_eq_of asked shape && is_page_of o asked.uar (Eq (length o.eqs))) (slice_get o.declared.eqs (length o.eqs))

abbrev pub next_cq : Objects → CqContext → Option CqShape
next_cq o asked = only_if (λ shape. is_cq_of asked shape && is_page_of o asked.uar_page (Cq (length o.cqs))) (slice_get o.declared.cqs (length o.cqs))

abbrev pub next_qp : Objects → QpBlock → Option QpShape
next_qp o asked = only_if (λ shape. is_qp_of asked shape && is_page_of o asked.uar (Qp (FIRST_QP + length o.qps))) (slice_get o.declared.qps (length o.qps))
