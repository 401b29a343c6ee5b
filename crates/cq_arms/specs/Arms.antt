-- What the arms of a completion queue stand for: the arm that was stored last, what the adapter has seen and answered, and the events.
use Rattle.std.specs.Prelude.{ℕ, ◌≡◌, ◌≢◌, ◌+◌, ◌%◌, ◌^◌, ◌<◌, ◌≤◌, ◌==◌, ◌⊎◌, List, Bool, true, false, Option, Some, None, if◌then◌else◌}
use Rattle.verbs_types.specs.declared.completion.ArmKind.{ArmKind}
use Rattle.verbs_types.specs.declared.completion.ArmKind.TheVariants.{Any}
use Rattle.bus_core.specs.Follow.{Follows}
use Rattle.cq_arms.specs.declared.arm_word.Arm.{Arm}
use Rattle.cq_arms.specs.Words.{is_passed}

pub record Arms : Type 0 where
  -- of the queue: the acknowledged index, the next one, and one past the index of the last solicited completion, at first 0
  pub acked : ℕ
  pub produced : ℕ
  pub solicited : ℕ
  -- the arm that was stored last, and the one that the adapter saw last
  pub last : Option Arm
  pub seen : Option Arm
  -- the arm that waits to be passed
  pub armed : Option Arm
  -- one past the number that was answered last, at first 0
  pub answered : ℕ
  -- whether an event is due, how many were written, and how many were taken
  pub due : Bool
  pub written : ℕ
  pub taken : ℕ

-- a queue whose first completion has this index, before its first arm
abbrev pub fresh_arms : ℕ → Arms
fresh_arms index = record { acked = index; produced = index; solicited = 0; last = None; seen = None; armed = None; answered = 0; due = false; written = 0; taken = 0 }

-- what a marked operation says
pub data ArmEvent : Type 0 where
  Armed : (arm : Arm) → ArmEvent
  Saw : (kind : ArmKind) (index sn : ℕ) (due : Bool) → ArmEvent
  NoNews : ArmEvent
  Published : (solicited due : Bool) → ArmEvent
  Resized : ArmEvent
  Acked : (ci : ℕ) → ArmEvent
  Wrote : ArmEvent
  Raised : (number : ℕ) → ArmEvent

-- an arm that is passed is answered, and its event is due
abbrev pub answer : Arms → Option Arm → Arms
answer a None = a
answer a (Some arm) = if is_passed arm.kind arm.index a.produced a.solicited then record a { armed = None; answered = arm.number + 1; due = true } else a

abbrev pub judged : Arms → Arms
judged a = answer a a.armed

-- An arm with the number that was answered last arms nothing. Another one replaces an arm that waits.
abbrev pub see : Arms → Option Arm → Arms
see a None = a
see a (Some arm) = record a { seen = Some arm; armed = if arm.number + 1 == a.answered then a.armed else Some arm }

abbrev pub publish : Arms → Bool → Arms
publish a solicited = record a { produced = a.produced + 1; solicited = if solicited then a.produced + 1 else a.solicited }

-- what an event makes
abbrev pub after_event : Arms → ArmEvent → Arms
after_event a (Armed arm) = record a { last = Some arm }
after_event a (Saw kind index sn due) = judged (see a a.last)
after_event a NoNews = a
after_event a (Published solicited due) = judged (publish a solicited)
after_event a Resized = record a { produced = a.produced + 1 }
after_event a (Acked ci) = record a { acked = ci }
after_event a Wrote = record a { due = false; written = a.written + 1 }
after_event a (Raised number) = record a { taken = number }

-- one past the number of an arm
abbrev pub bound : Option Arm → ℕ
bound None = 0
bound (Some arm) = arm.number + 1

-- an arm for any completion is not followed by a solicited one of its index and number
abbrev pub MayFollow : Arm → Option Arm → Type 0
MayFollow arm None = Unit {0}
MayFollow arm (Some last) = last.kind ≡ Any → last.index ≡ arm.index → last.number ≡ arm.number → arm.kind ≡ Any

-- its index is the acknowledged one, and its number the number of events taken, or one less where one was taken since it was asked for
pub record MayArm (a : Arms) (arm : Arm) : Type 0 where
  pub index_is : arm.index ≡ a.acked
  pub number_is : (a.taken ≡ arm.number) ⊎ (a.taken ≡ arm.number + 1)
  pub later : bound a.last ≤ arm.number + 1
  pub kind_is : MayFollow arm a.last

-- the last arm was not seen, and this is what its words show
pub record MaySee (a : Arms) (kind : ArmKind) (index sn : ℕ) (due : Bool) : Type 0 where
  pub free : a.due ≡ false
  pub arm : Arm
  pub last_is : a.last ≡ Some arm
  pub unseen : a.seen ≢ Some arm
  pub kind_is : kind ≡ arm.kind
  pub index_is : index ≡ arm.index
  pub sn_is : sn ≡ arm.number % 4
  pub due_is : due ≡ (judged (see a a.last)).due

-- two arms that the register can't tell apart: their indices are whole rounds of 24 bits apart
pub record AreAlike (a b : Arm) : Type 0 where
  pub kind : a.kind ≡ b.kind
  pub number : a.number ≡ b.number
  pub index : a.index % 2 ^ 24 ≡ b.index % 2 ^ 24

abbrev pub IsNoNews : Option Arm → Option Arm → Type 0
IsNoNews None None = Unit {0}
IsNoNews None (Some seen) = ⊥
IsNoNews (Some last) None = ⊥
IsNoNews (Some last) (Some seen) = AreAlike last seen

-- no queue has more entries than this
abbrev pub most : ℕ
most = 2 ^ 23

-- a completion finds room, and no event is due
pub record MayPublish (a : Arms) (solicited due : Bool) : Type 0 where
  pub free : a.due ≡ false
  pub room : a.produced < a.acked + most
  pub due_is : due ≡ (judged (publish a solicited)).due

-- the step relation
abbrev pub MayHappen : Arms → ArmEvent → Type 0
MayHappen a (Armed arm) = MayArm a arm
MayHappen a (Saw kind index sn due) = MaySee a kind index sn due
MayHappen a NoNews = IsNoNews a.last a.seen
MayHappen a (Published solicited due) = MayPublish a solicited due
MayHappen a Resized = (a.due ≡ false) × (a.produced < a.acked + most)
MayHappen a (Acked ci) = (a.acked ≤ ci) × (ci ≤ a.produced)
MayHappen a Wrote = a.due ≡ true
MayHappen a (Raised number) = (number ≡ a.taken + 1) × (a.taken < a.written)

abbrev pub IsLegal : Arms → List ArmEvent → Type 0
IsLegal a events = Follows MayHappen after_event a events

-- What the objects beside it ensure: the completion queue that an arm is of its acknowledged index, that it has room for what is published, and that no more is acknowledged than was published; the event queue that an event is taken after it was written, and once.
abbrev pub MayAsk : Arms → ArmEvent → Type 0
MayAsk a (Armed arm) = arm.index ≡ a.acked
MayAsk a (Published solicited due) = a.produced < a.acked + most
MayAsk a Resized = a.produced < a.acked + most
MayAsk a (Acked ci) = (a.acked ≤ ci) × (ci ≤ a.produced)
MayAsk a (Raised number) = a.taken < a.written
MayAsk a _ = Unit {0}

abbrev pub Asks : Arms → List ArmEvent → Type 0
Asks a events = Follows MayAsk after_event a events
