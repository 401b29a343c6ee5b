-- Where the arms of a completion queue lie.
use Rattle.std.specs.Prelude.{ℕ, ◌≢◌, ◌^◌, ◌<◌, ◌==◌, ◌||◌, Bool}
use Rattle.cq_arms.specs.declared.place.ArmPlace.{ArmPlace}

-- whether the address is one of the arms' words
abbrev pub touches : ArmPlace → ℕ → Bool
touches place address = (address == place.arm_record) || (address == place.arm_reg) || (address == place.sn)

-- the words are apart, and the queue's number fits the lower half of the register
pub record IsPlace (place : ArmPlace) : Type 0 where
  pub fits : place.number < 2 ^ 32
  pub record_not_register : place.arm_record ≢ place.arm_reg
  pub sn_not_register : place.sn ≢ place.arm_reg
  pub sn_not_record : place.sn ≢ place.arm_record
