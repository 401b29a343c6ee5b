-- How the fields of an operation of a trace are seen.
use Rattle.std.specs.Prelude.{ℕ, Bool, true, false, Option, None, Some}
use Rattle.bus_core.specs.declared.operation.BusEntry.{BusEntry}
use Rattle.bus_core.specs.declared.operation.BusOp.{BusOp}
use Rattle.bus_core.specs.declared.operation.BusOp.TheVariants.{Load, Store, SetBits, Swap}
use Rattle.bus_core.specs.declared.trace.Kind.{Kind}
use Rattle.bus_core.specs.declared.trace.Kind.TheVariants as kind
use Rattle.bus_core.specs.declared.trace.TraceEntry.TheInside.{Inside}

abbrev pub op_of : Kind → ℕ → BusOp
op_of kind.Load given = Load
op_of kind.Store given = Store given
op_of kind.SetBits given = SetBits given
op_of kind.Swap given = Swap given

abbrev pub old_of : Bool → ℕ → Option ℕ
old_of true old = Some old
old_of false old = None

abbrev pub entry_view : Inside → BusEntry
entry_view a = record { actor = a.actor; addr = a.addr; op = op_of a.kind a.given; old = old_of a.tells a.old }
