-- What the adapter's side is to a caller, and what a turn of it does.
use Rattle.std.specs.Prelude.{ℕ, ◌≡◌, ◌==◌, Bool, true, false, Option, Some, None, if◌then◌else◌}
use Rattle.bus_core.specs.declared.operation.BusEntry.{BusEntry}
use Rattle.bus_core.specs.declared.turn.Note.{Note}
use Rattle.bus_core.specs.declared.turn.Step.{Step}
use Rattle.bus_core.specs.Operation.{loaded}
use Rattle.cq_arms.specs.declared.device.ArmSeen.{ArmSeen}
use Rattle.cq_arms.specs.declared.device.ArmSeen.TheVariants as answers
use Rattle.cq_arms.specs.declared.place.ArmPlace.{ArmPlace}
use Rattle.cq_arms.specs.Place.{touches}
use Rattle.cq_arms.specs.Words.{shown, arm_note}
use Rattle.cq_arms.specs.Arms.{ArmEvent, Saw, NoNews}
use Rattle.cq_arms.specs.Mark.{ArmMark, See, Foreign}
use Rattle.cq_arms.specs.Device.{Device, MayServe, after_serve, served}
use Rattle.cq_arms.specs.Turn.{answered}

pub record DeviceView : Type 0 where
  pub place : ArmPlace
  pub side : Device
  -- whether it is to look at the register
  pub looking : Bool
  -- what its words showed of the arm that it saw last
  pub seen : Note

-- what its next operation is about
abbrev pub look_mark : Bool → ArmMark
look_mark true = See
look_mark false = Foreign

abbrev pub next_mark : DeviceView → ArmMark
next_mark d = look_mark d.looking

-- the answer that tells of an event
abbrev pub seen_as : Option ArmEvent → Option ArmSeen
seen_as (Some NoNews) = Some answers.NoNews
seen_as (Some (Saw kind index sn due)) = Some (answers.Seen kind index sn due)
seen_as _ = None

-- a register that is as it was shows the arm that was seen before
abbrev pub seen_after : Device → Note → ℕ → Note
seen_after d seen word = if word == d.register then seen else arm_note (shown d.index word)

-- one operation, which keeps the side's rule and ends what was begun
pub record DeviceTurn (old new : DeviceView) (e : BusEntry) (answer : Step (Unit {0}) ArmSeen) : Type 0 where
  pub may : MayServe old.place old.side (next_mark old) e
  pub inside : touches old.place e.addr ≡ true
  pub side : new.side ≡ after_serve old.side (next_mark old) e
  pub says : answered answer ≡ seen_as (served old.side (next_mark old) e)
  pub ends : new.looking ≡ false
  pub seen : new.seen ≡ seen_after old.side old.seen (loaded e)
  pub place : new.place ≡ old.place
