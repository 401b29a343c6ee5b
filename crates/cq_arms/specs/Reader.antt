-- The rule of the event reader, over its own operations on the words of arms.
use Rattle.std.specs.Prelude.{ℕ, ◌+◌, Option, Some, None}
use Rattle.bus_core.specs.declared.operation.BusEntry.{BusEntry}
use Rattle.bus_core.specs.Operation.{IsStore}
use Rattle.cq_arms.specs.declared.place.ArmPlace.{ArmPlace}
use Rattle.cq_arms.specs.Arms.{ArmEvent, Raised}
use Rattle.cq_arms.specs.Mark.{ArmMark, Raise}

-- the side before its next operation: how many events it took
pub record Reader : Type 0 where
  pub taken : ℕ

-- the sequence number is raised by one
abbrev pub MayRaise : ArmPlace → Reader → ArmMark → BusEntry → Type 0
MayRaise place r Raise e = IsStore place.sn (r.taken + 1) e
MayRaise place r _ e = ⊥

abbrev pub after_raise : Reader → ArmMark → Reader
after_raise r Raise = record { taken = r.taken + 1 }
after_raise r _ = r

-- what the operation says
abbrev pub raise_says : Reader → ArmMark → Option ArmEvent
raise_says r Raise = Some (Raised (r.taken + 1))
raise_says r _ = None
