-- How often the adapter looks at the register.
use Rattle.std.specs.Prelude.{ℕ, ◌+◌, ◌<◌}
use Rattle.bus_core.specs.declared.operation.BusEntry.{BusEntry}
use Rattle.cq_arms.specs.declared.place.ArmPlace.{ArmPlace}
use Rattle.cq_arms.specs.Arms.{most}
use Rattle.cq_arms.specs.Mark.{ArmMark, See, Publish, Resize}
use Rattle.cq_arms.specs.Device.{Device, MayServe, after_serve}

-- the adapter's side, and how many indices it used since it last loaded the register
pub record Scanner : Type 0 where
  pub device : Device
  pub unlooked : ℕ

-- fewer than 2 ^ 23 before the first load of the register and between two, so that its 24 bits name one index
abbrev pub IsFew : ℕ → ArmMark → Type 0
IsFew unlooked (Publish solicited) = unlooked + 1 < most
IsFew unlooked Resize = unlooked + 1 < most
IsFew unlooked _ = Unit {0}

abbrev pub unlooked_after : ℕ → ArmMark → ℕ
unlooked_after unlooked See = 0
unlooked_after unlooked (Publish solicited) = unlooked + 1
unlooked_after unlooked Resize = unlooked + 1
unlooked_after unlooked _ = unlooked

-- the rule of an operation of the adapter's, and the side after it
pub record MayScan (place : ArmPlace) (s : Scanner) (mark : ArmMark) (e : BusEntry) : Type 0 where
  pub serves : MayServe place s.device mark e
  pub few : IsFew s.unlooked mark

abbrev pub after_scan : Scanner → ArmMark → BusEntry → Scanner
after_scan s mark e = record { device = after_serve s.device mark e; unlooked = unlooked_after s.unlooked mark }
