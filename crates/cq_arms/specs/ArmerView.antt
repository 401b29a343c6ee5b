-- What an armer is to a caller, and what a turn of it does.
use Rattle.std.specs.Prelude.{ℕ, ◌≡◌, ◌<◌, true, Option, Some, None}
use Rattle.verbs_types.specs.declared.completion.ArmKind.{ArmKind}
use Rattle.bus_core.specs.declared.operation.BusEntry.{BusEntry}
use Rattle.bus_core.specs.declared.turn.Step.{Step}
use Rattle.bus_core.specs.Operation.{loaded}
use Rattle.cq_arms.specs.declared.arm_word.Armed.{Armed}
use Rattle.cq_arms.specs.declared.place.ArmPlace.{ArmPlace}
use Rattle.cq_arms.specs.Place.{touches}
use Rattle.cq_arms.specs.Words.{shown_arm}
use Rattle.cq_arms.specs.Arms.{ArmEvent}
use Rattle.cq_arms.specs.Arms as arms
use Rattle.cq_arms.specs.Mark.{ArmMark, LoadNumber, StoreRecord, StoreRegister, Foreign}
use Rattle.cq_arms.specs.Armer.{Armer, Stage, Ready, Numbered, Recorded, MayArm, after_arm, arm_says}
use Rattle.cq_arms.specs.Turn.{answered, task_after}

-- the arm that was asked for
pub record ArmTask : Type 0 where
  pub kind : ArmKind
  pub index : ℕ

pub record ArmerView : Type 0 where
  pub place : ArmPlace
  pub side : Armer
  pub task : Option ArmTask
  -- the number of events taken that it loaded last, at first 0
  pub seen : ℕ

abbrev pub stage_mark : Stage → ArmTask → ArmMark
stage_mark Ready task = LoadNumber
stage_mark (Numbered number) task = StoreRecord task.kind task.index
stage_mark (Recorded arm) task = StoreRegister

-- what its next operation is about
abbrev pub mark_of : Option ArmTask → Stage → ArmMark
mark_of None stage = Foreign
mark_of (Some task) stage = stage_mark stage task

abbrev pub next_mark : ArmerView → ArmMark
next_mark a = mark_of a.task a.side.stage

-- the answer that tells of an event
abbrev pub armed_as : Option ArmEvent → Option Armed
armed_as (Some (arms.Armed arm)) = Some (shown_arm arm)
armed_as _ = None

abbrev pub seen_after : ArmMark → ℕ → BusEntry → ℕ
seen_after LoadNumber seen e = loaded e
seen_after _ seen e = seen

-- how many turns the task still takes
abbrev pub stage_turns : Stage → ℕ
stage_turns Ready = 3
stage_turns (Numbered number) = 2
stage_turns (Recorded arm) = 1

abbrev pub turns_left : Option ArmTask → Stage → ℕ
turns_left None stage = 0
turns_left (Some task) stage = stage_turns stage

-- one operation, which keeps the side's rule
pub record ArmerTurn (old new : ArmerView) (e : BusEntry) (answer : Step (Unit {0}) Armed) : Type 0 where
  pub may : MayArm old.place old.side (next_mark old) e
  pub inside : touches old.place e.addr ≡ true
  pub side : new.side ≡ after_arm old.side (next_mark old) e
  pub says : answered answer ≡ armed_as (arm_says old.side (next_mark old))
  pub task : new.task ≡ task_after old.task answer
  pub fewer : turns_left new.task new.side.stage < turns_left old.task old.side.stage
  pub seen : new.seen ≡ seen_after (next_mark old) old.seen e
  pub place : new.place ≡ old.place

-- an armer that drops what it is at
abbrev pub forgotten : ArmerView → ArmerView
forgotten a = record a { side = record { last = a.side.last; stage = Ready }; task = None }
