-- The objects that a host may make, of each kind in the order of their numbers.
use Rattle.std.specs.Prelude.{ℕ, Bool, true, false, List, map, length}
use Rattle.verbs_types.specs.declared.declaration.EqLine.{EqLine}
use Rattle.verbs_types.specs.declared.declaration.CqLine.{CqLine}
use Rattle.verbs_types.specs.declared.declaration.QpLine.{QpLine}
use Rattle.verbs_types.specs.declared.declaration.Object.{Object}
use Rattle.verbs_types.specs.declared.declaration.Object.TheVariants.{Eq, Pd, Cq, Qp}
use Rattle.verbs_types.specs.declared.declaration.Lines.{Lines}
use Rattle.std.specs.List.{filter}
use Rattle.device_commands.specs.declared.shapes.EqShape.{EqShape}
use Rattle.device_commands.specs.declared.shapes.CqShape.{CqShape}
use Rattle.device_commands.specs.declared.shapes.QpShape.{QpShape}

pub record Declared : Type 0 where
  -- how many protection domains there are
  pub pds : ℕ
  pub eqs : List EqShape
  pub cqs : List CqShape
  pub qps : List QpShape
  -- the object that each doorbell page is for, by the number of the page
  pub owners : List Object

abbrev pub eq_shape : EqLine → EqShape
eq_shape l = record { log = l.log }

abbrev pub cq_shape : CqLine → CqShape
cq_shape l = record { log = l.log; eq = l.eq }

abbrev pub qp_shape : QpLine → QpShape
qp_shape l = record { pd = l.pd; send_cq = l.send_cq; recv_cq = l.recv_cq; send_log = l.send_log; recv_log = l.recv_log; segments = l.segments }

-- event queues, completion queues and queue pairs have a doorbell page each
abbrev pub has_page : Object → Bool
has_page (Eq n) = true
has_page (Pd n) = false
has_page (Cq n) = true
has_page (Qp n) = true

abbrev pub declared_in : Lines → Declared
declared_in d = record { pds = length d.pds; eqs = map eq_shape d.eqs; cqs = map cq_shape d.cqs; qps = map qp_shape d.qps; owners = filter has_page d.order }
