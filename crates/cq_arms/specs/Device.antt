-- The rule of the adapter, over its own operations on the words of arms and in the queue.
use Rattle.std.specs.Prelude.{ℕ, ◌≡◌, ◌+◌, ◌==◌, Bool, true, false, Option, Some, None, if◌then◌else◌}
use Rattle.bus_core.specs.declared.operation.BusEntry.{BusEntry}
use Rattle.bus_core.specs.declared.operation.BusOp.TheVariants.{Load}
use Rattle.bus_core.specs.Operation.{IsLoad, loaded}
use Rattle.cq_arms.specs.declared.arm_word.Armed.{Armed}
use Rattle.cq_arms.specs.declared.place.ArmPlace.{ArmPlace}
use Rattle.cq_arms.specs.Place.{touches}
use Rattle.cq_arms.specs.Words.{shown, is_passed}
use Rattle.cq_arms.specs.Arms.{ArmEvent, Saw, NoNews, Published, Resized, Wrote}
use Rattle.cq_arms.specs.Mark.{ArmMark, See, Publish, Resize, Write}

-- the side before its next operation
pub record Device : Type 0 where
  -- the queue's next index, and one past that of the last solicited completion, at first 0
  pub index : ℕ
  pub solicited : ℕ
  -- the register as it was loaded last
  pub register : ℕ
  -- the arm that waits to be passed, and the number answered last, modulo 4
  pub armed : Option Armed
  pub answered : ℕ
  -- whether an event is due
  pub due : Bool

-- an arm that is passed is answered
abbrev pub answer : Device → Option Armed → Device
answer d None = d
answer d (Some arm) = if is_passed arm.kind arm.index d.index d.solicited then record d { armed = None; answered = arm.sn; due = true } else d

abbrev pub judged : Device → Device
judged d = answer d d.armed

-- an arm with the number that was answered last arms nothing
abbrev pub notice : Device → Armed → ℕ → Device
notice d arm word = record d { register = word; armed = if arm.sn == d.answered then d.armed else Some arm }

-- a register that is as it was brings no news
abbrev pub see : Device → ℕ → Device
see d word = if word == d.register then d else judged (notice d (shown d.index word) word)

abbrev pub publish : Device → Bool → Device
publish d solicited = judged (record d { index = d.index + 1; solicited = if solicited then d.index + 1 else d.solicited })

-- an operation that leaves the words of arms alone
abbrev pub IsHarmless : ArmPlace → BusEntry → Type 0
IsHarmless place e = touches place e.addr ≡ true → e.op ≡ Load

-- A load of the register, or an operation in one of the queues beside. An event that is due is written before anything else.
abbrev pub MayServe : ArmPlace → Device → ArmMark → BusEntry → Type 0
MayServe place d See e = (d.due ≡ false) × IsLoad place.arm_reg e
MayServe place d (Publish solicited) e = (d.due ≡ false) × IsHarmless place e
MayServe place d Resize e = (d.due ≡ false) × IsHarmless place e
MayServe place d Write e = (d.due ≡ true) × IsHarmless place e
MayServe place d _ e = ⊥

abbrev pub after_serve : Device → ArmMark → BusEntry → Device
after_serve d See e = see d (loaded e)
after_serve d (Publish solicited) e = publish d solicited
after_serve d Resize e = record d { index = d.index + 1 }
after_serve d Write e = record d { due = false }
after_serve d _ e = d

abbrev pub saw : Armed → Bool → ArmEvent
saw arm due = Saw arm.kind arm.index arm.sn due

abbrev pub see_says : Device → ℕ → ArmEvent
see_says d word = if word == d.register then NoNews else saw (shown d.index word) (judged (notice d (shown d.index word) word)).due

-- what the operation says
abbrev pub served : Device → ArmMark → BusEntry → Option ArmEvent
served d See e = Some (see_says d (loaded e))
served d (Publish solicited) e = Some (Published solicited (publish d solicited).due)
served d Resize e = Some Resized
served d Write e = Some Wrote
served d _ e = None
