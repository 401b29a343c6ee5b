-- What the device's side of a slot is to a caller, and what a turn of it does.
use Rattle.std.specs.Prelude.{ℕ, ◌≡◌, ◌+◌, ◌-◌, ◌<◌, ◌++◌, if◌then◌else◌, true, List, [], ◌∷◌, length, Option, Some, None, Result, Ok, Err}
use Rattle.bus_core.specs.declared.operation.BusEntry.{BusEntry}
use Rattle.bus_core.specs.declared.turn.Step.{Step}
use Rattle.bus_core.specs.declared.turn.Step.TheVariants.{More, Gave, Done}
use Rattle.bus_core.specs.Operation.{loaded}
use Rattle.cmd_bodies.specs.declared.command.Command.{Command}
use Rattle.cmd_bodies.specs.declared.reply.Reply.{Reply as Output}
use Rattle.cmd_bodies.specs.Reply.{IsReplyTo}
use Rattle.cmd_slots.specs.declared.answer.Answer.{Answer}
use Rattle.cmd_slots.specs.declared.answer.Answer.TheVariants.{Delivered}
use Rattle.cmd_slots.specs.declared.device.SlotDone.{SlotDone}
use Rattle.cmd_slots.specs.declared.device.SlotDone.TheVariants.{Asked, AskedBad, Replied}
use Rattle.cmd_slots.specs.Place.{touches}
use Rattle.cmd_slots.specs.Question.{verdict}
use Rattle.cmd_slots.specs.Answer.{Answers}
use Rattle.cmd_slots.specs.Mark as marks
use Rattle.cmd_slots.specs.Mark.{SlotMark}
use Rattle.cmd_slots.specs.Device.{Server, ServeStage, Reading, Judged, Storing, MayServe_at, after_server, is_last}

pub data DeviceTask : Type 0 where
  Read : DeviceTask
  -- with this answer, in these words
  Reply : (answer : Answer) (words : List ℕ) → DeviceTask

pub record DeviceView : Type 0 where
  pub slot : ℕ
  pub side : Server
  pub task : Option DeviceTask
  -- how many commands were asked, by the last question that was read; at first 0
  pub seen : ℕ

abbrev pub fresh : ℕ → DeviceView
fresh slot = record { slot = slot; side = record { answered = 0; stage = Reading [] }; task = None; seen = 0 }

-- what its next operation is about
abbrev pub reply_mark : ℕ → Answer → List ℕ → ServeStage → SlotMark
reply_mark slot answer words (Reading read) = marks.Foreign
reply_mark slot answer words (Judged entry question) = marks.Reply slot answer words
reply_mark slot answer words (Storing entry question stored stored_words count) = marks.Store slot

abbrev pub mark_of : ℕ → Option DeviceTask → ServeStage → SlotMark
mark_of slot None stage = marks.Foreign
mark_of slot (Some Read) stage = marks.Read slot
mark_of slot (Some (Reply answer words)) stage = reply_mark slot answer words stage

abbrev pub next_mark : DeviceView → SlotMark
next_mark d = mark_of d.slot d.task d.side.stage

-- what it answers where this word was loaded
abbrev pub done_of : Result Command Answer → SlotDone
done_of (Ok c) = Asked c
done_of (Err answer) = AskedBad answer

abbrev pub judged_answer : Option (Result Command Answer) → Step (Unit {0}) SlotDone
judged_answer None = More
judged_answer (Some question) = Done (done_of question)

abbrev pub answer_at : ℕ → ServeStage → ℕ → Step (Unit {0}) SlotDone
answer_at slot (Reading words) word = judged_answer (verdict slot (words ++ word ∷ []))
answer_at slot (Judged entry question) word = More
answer_at slot (Storing entry question answer words count) word = if is_last words count then Done Replied else More

abbrev pub task_after : Option DeviceTask → Step (Unit {0}) SlotDone → Option DeviceTask
task_after task (Done done) = None
task_after task step = task

abbrev pub seen_after : ServeStage → ℕ → ℕ → Step (Unit {0}) SlotDone → ℕ
seen_after (Reading words) answered seen (Done done) = answered + 1
seen_after stage answered seen step = seen

-- how many turns the task still takes
abbrev pub reply_turns : List ℕ → ServeStage → ℕ
reply_turns words (Storing entry question answer stored count) = length words - count
reply_turns words stage = length words

abbrev pub read_turns : ServeStage → ℕ
read_turns (Reading words) = 296 - length words
read_turns stage = 0

abbrev pub turns_left : Option DeviceTask → ServeStage → ℕ
turns_left None stage = 0
turns_left (Some Read) stage = read_turns stage
turns_left (Some (Reply answer words)) stage = reply_turns words stage

-- the question that was judged, and that this is an answer to it
abbrev pub MayAnswer : ServeStage → Answer → Type 0
MayAnswer (Judged entry question) answer = Answers question answer
MayAnswer stage answer = ⊥

-- what may be answered when a read came to this: a reply to the command, or what refuses it
abbrev pub CanAnswer : ServeStage → Step (Unit {0}) SlotDone → Type 0
CanAnswer stage (Done (Asked c)) = (reply : Output) → IsReplyTo c reply → MayAnswer stage (Delivered reply)
CanAnswer stage (Done (AskedBad refusal)) = MayAnswer stage refusal
CanAnswer stage step = Unit {0}

-- one operation, which keeps the side's rule
pub record DeviceTurn (old new : DeviceView) (e : BusEntry) (answer : Step (Unit {0}) SlotDone) : Type 0 where
  pub may : MayServe_at old.slot old.side.stage (next_mark old) e
  pub inside : touches e.addr ≡ true
  pub side : new.side ≡ after_server old.slot old.side (next_mark old) e
  pub answers : answer ≡ answer_at old.slot old.side.stage (loaded e)
  pub task : new.task ≡ task_after old.task answer
  pub can_answer : CanAnswer new.side.stage answer
  pub fewer : turns_left new.task new.side.stage < turns_left old.task old.side.stage
  pub seen : new.seen ≡ seen_after old.side.stage old.side.answered old.seen answer
  pub slot : new.slot ≡ old.slot

-- a device that begins to reply to a question
abbrev pub Replies : Answer → Option DeviceTask → Type 0
Replies answer (Some (Reply given words)) = given ≡ answer
Replies answer _ = ⊥
