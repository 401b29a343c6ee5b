-- How the fields of the device's side of a slot are seen.
use Rattle.std.specs.Prelude.{ℕ, ◌≡◌, ◌<◌, ◌≤◌, ◌^◌, List, [], take, Option, Some, None, Result, Ok, Err}
use Rattle.cmd_bodies.specs.declared.command.Command.{Command}
use Rattle.cmd_slots.specs.declared.answer.Answer.{Answer}
use Rattle.cmd_slots.specs.declared.device.Phase.{Phase}
use Rattle.cmd_slots.specs.declared.device.Phase.TheVariants as phases
use Rattle.cmd_slots.specs.declared.device.SlotDevice.TheInside.{Inside}
use Rattle.cmd_slots.specs.Place.{IsSlot}
use Rattle.cmd_slots.specs.Question.{verdict}
use Rattle.cmd_slots.specs.Answer.{Answers, IsAnswer}
use Rattle.cmd_slots.specs.Answering.{IsShort}
use Rattle.cmd_slots.specs.Turn.{HasWord}
use Rattle.cmd_slots.specs.Device.{ServeStage, Reading, Judged, Storing}
use Rattle.cmd_slots.specs.DeviceView.{DeviceView, DeviceTask, Read, Reply}

abbrev pub stage_in : List ℕ → Result Command Answer → Answer → List ℕ → Phase → ServeStage
stage_in loaded question answer words phases.Waiting = Reading []
stage_in loaded question answer words (phases.Reading count) = Reading (take count loaded)
stage_in loaded question answer words phases.Judged = Judged (take 8 loaded) question
stage_in loaded question answer words phases.Replying = Judged (take 8 loaded) question
stage_in loaded question answer words (phases.Storing count) = Storing (take 8 loaded) question answer words count

abbrev pub task_in : Answer → List ℕ → Phase → Option DeviceTask
task_in answer words phases.Waiting = None
task_in answer words (phases.Reading count) = Some Read
task_in answer words phases.Judged = None
task_in answer words phases.Replying = Some (Reply answer words)
task_in answer words (phases.Storing count) = Some (Reply answer words)

abbrev pub device_view : Inside → DeviceView
device_view a = record {
  slot = a.slot;
  side = record { answered = a.answered; stage = stage_in a.loaded a.question.value a.answer.value (take a.long a.words) a.phase };
  task = task_in a.answer.value (take a.long a.words) a.phase;
  seen = a.seen;
}

-- a question of which these words are read has a next word
pub record IsReading (answered : ℕ) (words : List ℕ) (count : ℕ) : Type 0 where
  pub low : answered < 2 ^ 62
  pub few : count < 296
  pub next : HasWord words count

-- an answer that refuses a command lists no more pages than it can
abbrev pub HasShort : Result Command Answer → Type 0
HasShort (Ok c) = Unit {0}
HasShort (Err answer) = IsShort answer

pub record IsJudged (answered : ℕ) (question : Result Command Answer) : Type 0 where
  pub low : answered < 2 ^ 62
  pub short : HasShort question

pub record IsReplying (answered long : ℕ) (entry : List ℕ) (question : Result Command Answer) (answer : Answer) (words : List ℕ) : Type 0 where
  pub low : answered < 2 ^ 62
  pub few : long ≤ 147
  pub fits : Answers question answer
  pub spells : IsAnswer entry answer words

abbrev pub IsAtWork : ℕ → List ℕ → Result Command Answer → Answer → List ℕ → ℕ → Phase → Type 0
IsAtWork answered loaded question answer words long phases.Waiting = Unit {0}
IsAtWork answered loaded question answer words long (phases.Reading count) = IsReading answered (take count loaded) count
IsAtWork answered loaded question answer words long phases.Judged = IsJudged answered question
IsAtWork answered loaded question answer words long phases.Replying = IsReplying answered long (take 8 loaded) question answer words
IsAtWork answered loaded question answer words long (phases.Storing count) = (count < long) × IsReplying answered long (take 8 loaded) question answer words

pub record IsDevice (a : Inside) : Type 0 where
  pub slot_ok : IsSlot a.slot
  pub long_few : a.long ≤ 147
  pub work : IsAtWork a.answered a.loaded a.question.value a.answer.value (take a.long a.words) a.long a.phase
