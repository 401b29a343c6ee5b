-- The bits that were found, and what a sweep does.
use Rattle.std.specs.Prelude.{ℕ, ◌≡◌, ◌<◌, ◌||◌, Bool, true, false, Option, Some, None}
use Rattle.bus_core.specs.declared.operation.BusEntry.{BusEntry}
use Rattle.bus_core.specs.declared.turn.Step.{Step}
use Rattle.bus_core.specs.declared.turn.Step.TheVariants.{Done}
use Rattle.bus_core.specs.Operation.{IsSwap, loaded}
use Rattle.cmd_slots.specs.Place.{IsSlot, bits_word, touches}
use Rattle.cmd_slots.specs.Family.{put}
use Rattle.cmd_slots.specs.Device.{has_bit, slot_bits}

pub record BitsView : Type 0 where
  -- the bits of the slots that were found and not answered yet
  pub bits : ℕ
  -- whether a sweep is under way
  pub sweeping : Bool

-- one operation, the swap, which adds what it finds
pub record BitsTurn (old new : BitsView) (e : BusEntry) (answer : Step (Unit {0}) (Unit {0})) : Type 0 where
  pub swap : IsSwap bits_word 0 e
  pub inside : touches e.addr ≡ true
  pub found : (slot : ℕ) → has_bit new.bits slot ≡ (has_bit old.bits slot || has_bit (slot_bits (loaded e)) slot)
  pub swept : new.sweeping ≡ false
  pub answers : answer ≡ Done tt

-- the lowest slot whose bit is there
abbrev pub IsLowest : ℕ → Option ℕ → Type 0
IsLowest bits None = (slot : ℕ) → has_bit bits slot ≡ false
IsLowest bits (Some slot) = IsSlot slot × (has_bit bits slot ≡ true) × ((other : ℕ) → other < slot → has_bit bits other ≡ false)

-- all but one of the bits
abbrev pub Cleared : ℕ → ℕ → ℕ → Type 0
Cleared slot old new = (other : ℕ) → has_bit new other ≡ put (has_bit old) slot false other
