-- The rule of the armer, over its own operations on the words of arms.
use Rattle.std.specs.Prelude.{ℕ, ◌≡◌, ◌⊎◌, Option, Some, None}
use Rattle.verbs_types.specs.declared.completion.ArmKind.{ArmKind}
use Rattle.bus_core.specs.declared.operation.BusEntry.{BusEntry}
use Rattle.bus_core.specs.Operation.{IsLoad, IsStore, loaded}
use Rattle.cq_arms.specs.declared.arm_word.Arm.{Arm}
use Rattle.cq_arms.specs.declared.place.ArmPlace.{ArmPlace}
use Rattle.cq_arms.specs.Words.{arm_word, register_word, next_arm}
use Rattle.cq_arms.specs.Arms.{ArmEvent, Armed}
use Rattle.cq_arms.specs.Mark.{ArmMark, LoadNumber, StoreRecord, StoreRegister}

-- how far an arm has come: it loaded this sequence number, or stored record word 1 of this arm
pub data Stage : Type 0 where
  Ready : Stage
  Numbered : (number : ℕ) → Stage
  Recorded : (arm : Arm) → Stage

-- the side before its next operation, with the arm that it stored last
pub record Armer : Type 0 where
  pub last : Option Arm
  pub stage : Stage

abbrev pub MayRecord : ArmPlace → Option Arm → Stage → ArmKind → ℕ → BusEntry → Type 0
MayRecord place last (Numbered number) kind index e = IsStore place.arm_record (arm_word (next_arm last kind index number)) e
MayRecord place last _ kind index e = ⊥

abbrev pub MayRegister : ArmPlace → Stage → BusEntry → Type 0
MayRegister place (Recorded arm) e = IsStore place.arm_reg (register_word place.number arm) e
MayRegister place _ e = ⊥

-- An arm loads the sequence number, stores record word 1 and then the register. One that was begun may be dropped for a new one.
abbrev pub MayArm : ArmPlace → Armer → ArmMark → BusEntry → Type 0
MayArm place a LoadNumber e = IsLoad place.sn e
MayArm place a (StoreRecord kind index) e = MayRecord place a.last a.stage kind index e
MayArm place a StoreRegister e = MayRegister place a.stage e
MayArm place a _ e = ⊥

abbrev pub recorded : Option Arm → Stage → ArmKind → ℕ → Stage
recorded last (Numbered number) kind index = Recorded (next_arm last kind index number)
recorded last stage kind index = stage

abbrev pub registered : Option Arm → Stage → Option Arm
registered last (Recorded arm) = Some arm
registered last stage = last

abbrev pub after_arm : Armer → ArmMark → BusEntry → Armer
after_arm a LoadNumber e = record { last = a.last; stage = Numbered (loaded e) }
after_arm a (StoreRecord kind index) e = record { last = a.last; stage = recorded a.last a.stage kind index }
after_arm a StoreRegister e = record { last = registered a.last a.stage; stage = Ready }
after_arm a _ e = a

abbrev pub register_says : Stage → Option ArmEvent
register_says (Recorded arm) = Some (Armed arm)
register_says _ = None

-- what the operation says, if it is a marked one
abbrev pub arm_says : Armer → ArmMark → Option ArmEvent
arm_says a StoreRegister = register_says a.stage
arm_says a _ = None

-- what a machine knows of its side is less where it has dropped an arm that its list has begun
pub record KnowsLess (k a : Armer) : Type 0 where
  pub last : k.last ≡ a.last
  pub stage : (k.stage ≡ a.stage) ⊎ (k.stage ≡ Ready)
