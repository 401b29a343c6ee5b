-- How the fields of the adapter's side are seen.
use Rattle.std.specs.Prelude.{◌≡◌, true, false}
use Rattle.cq_arms.specs.declared.device.ArmDevice.TheInside.{Inside}
use Rattle.cq_arms.specs.DeviceView.{DeviceView}

abbrev pub device_view : Inside → DeviceView
device_view a = record {
  place = a.place;
  side = record { index = a.index; solicited = a.solicited; register = a.register; armed = a.armed; answered = a.answered; due = a.due };
  looking = a.looking;
  seen = a.seen;
}

-- it looks only while no event is due
pub record IsDevice (a : Inside) : Type 0 where
  pub free : a.looking ≡ true → a.due ≡ false
