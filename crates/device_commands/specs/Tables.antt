-- What the tables of an adapter are to a caller.
use Rattle.std.specs.Prelude.{ℕ, Option}
use Rattle.std.specs.Option.{option_map}
use Rattle.verbs_types.specs.declared.declaration.Lines.{Lines}
use Rattle.hca_pages.specs.Adapter.{Adapter, off}
use Rattle.device_commands.specs.declared.objects.Pair.{Pair}
use Rattle.device_commands.specs.declared.tables.QpNow.{QpNow}
use Rattle.device_commands.specs.Shapes.{declared_in}
use Rattle.device_commands.specs.Objects.{Objects, no_objects, qp_at}

pub record Tables : Type 0 where
  -- how far it is started, and its pages
  pub adapter : Adapter
  pub objects : Objects

-- an adapter that is off and has no object
abbrev pub reset : Lines → Tables
reset d = record { adapter = off; objects = no_objects (declared_in d) }

abbrev pub now_of : Pair → QpNow
now_of q = record { pd = q.shape.pd; state = q.state; peer = q.peer }

abbrev pub qp_now : Tables → ℕ → Option QpNow
qp_now t qp = option_map now_of (qp_at t.objects qp)
