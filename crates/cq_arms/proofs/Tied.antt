-- What ties the words, the three sides and the object, and what keeps it.
use Rattle.std.proofs.Common.{◌≡◌, ◌≢◌, ℕ, ◌+◌, ◌%◌, ◌<◌, ◌≤◌, refl, ◌∙◌, arith, true, Option, Some, None}
use Rattle.std.specs.Prelude.{option_map}
use Rattle.bus_core.specs.Trace.{Memory}
use Rattle.cq_arms.specs.declared.arm_word.Arm.{Arm}
use Rattle.cq_arms.specs.declared.place.ArmPlace.{ArmPlace}
use Rattle.cq_arms.specs.Place.{touches}
use Rattle.cq_arms.specs.Words.{shown_arm}
use Rattle.cq_arms.specs.Arms.{Arms, ArmEvent, fresh_arms, bound, MayFollow, MayHappen, MayAsk, after_event, most}
use Rattle.cq_arms.specs.Armer.{Armer, Stage, Ready, Numbered, Recorded}
use Rattle.cq_arms.specs.Reader.{Reader}
use Rattle.cq_arms.specs.Device.{Device}
use Rattle.cq_arms.specs.Scanner.{Scanner}
use Rattle.cq_arms.specs.Law.{IsStart, fresh_armer, fresh_reader, fresh_scanner}
use Rattle.cq_arms.proofs.Sound.{Sound, fresh_sound}
use Rattle.cq_arms.proofs.Registers.{register_of, touches_register, touches_sn}

-- the number that an armer loaded is that of events taken, or an earlier one that no arm has gone past
pub record IsNumber (taken : ℕ) (last : Option Arm) (number : ℕ) : Type 0 where
  pub low : number ≤ taken
  pub high : bound last ≤ number + 1

abbrev pub StageFits : ℕ → Option Arm → Stage → Type 0
StageFits taken last Ready = Unit {0}
StageFits taken last (Numbered number) = IsNumber taken last number
StageFits taken last (Recorded arm) = IsNumber taken last arm.number × MayFollow arm last

pub record ArmerFits (taken : ℕ) (last : Option Arm) (h : Armer) : Type 0 where
  pub last_is : h.last ≡ last
  pub stage : StageFits taken last h.stage

pub record DeviceFits (number : ℕ) (a : Arms) (d : Device) : Type 0 where
  pub index : d.index ≡ a.produced
  pub solicited : d.solicited ≡ a.solicited
  pub register : d.register ≡ register_of number a.seen
  pub armed : d.armed ≡ option_map shown_arm a.armed
  pub answered : d.answered ≡ (a.answered + 3) % 4
  pub due : d.due ≡ a.due

-- an arm that was not seen is so near that 24 bits name its index
abbrev pub IsNear : ℕ → ℕ → Option Arm → Type 0
IsNear produced unlooked None = Unit {0}
IsNear produced unlooked (Some arm) = produced ≤ arm.index + most + unlooked

pub record Tied (place : ArmPlace) (m : Memory) (h : Armer) (r : Reader) (s : Scanner) (a : Arms) : Type 0 where
  pub sound : Sound a
  pub sn : m place.sn ≡ a.taken
  pub register : m place.arm_reg ≡ register_of place.number a.last
  pub armer : ArmerFits a.taken a.last h
  pub reader : r.taken ≡ a.taken
  pub device : DeviceFits place.number a s.device
  pub few : s.unlooked < most
  pub near : register_of place.number a.last ≢ register_of place.number a.seen → IsNear a.produced s.unlooked a.last

-- what an operation makes of this, with what it says
abbrev pub Goes : ArmPlace → Memory → Armer → Reader → Scanner → Arms → Option ArmEvent → Type 0
Goes place m h r s a None = Tied place m h r s a
Goes place m h r s a (Some event) = MayHappen a event × Tied place m h r s (after_event a event)

-- what the objects beside ensure of what it says
abbrev pub AsksFor : Arms → Option ArmEvent → Type 0
AsksFor a None = Unit {0}
AsksFor a (Some event) = MayAsk a event

-- what leaves the words of arms alone keeps it
pub Tied_kept : (place : ArmPlace) (m m' : Memory) (h : Armer) (r : Reader) (s : Scanner) (a : Arms) → ((k : ℕ) → touches place k ≡ true → m' k ≡ m k) → Tied place m h r s a → Tied place m' h r s a
Tied_kept place m m' h r s a same t = record {
  sound = t.sound;
  sn = same place.sn (touches_sn place) ∙ t.sn;
  register = same place.arm_reg (touches_register place) ∙ t.register;
  armer = t.armer;
  reader = t.reader;
  device = t.device;
  few = t.few;
  near = t.near;
}

-- at the start nothing is armed
pub start_tied : (place : ArmPlace) (index : ℕ) (start : Memory) → IsStart place start → Tied place start fresh_armer fresh_reader (fresh_scanner index) (fresh_arms index)
start_tied place index start s = record {
  sound = fresh_sound index;
  sn = s.sn;
  register = s.register;
  armer = record { last_is = refl; stage = tt };
  reader = refl;
  device = record { index = refl; solicited = refl; register = refl; armed = refl; answered = refl; due = refl };
  few = omega arith;
  near = λ differ. tt;
}
