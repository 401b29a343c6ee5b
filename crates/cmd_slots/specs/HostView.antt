-- What a slot's host is to a caller, and what a turn of it does.
use Rattle.std.specs.Prelude.{ℕ, ◌≡◌, ◌+◌, ◌-◌, ◌%◌, ◌<◌, ◌==◌, ◌++◌, if◌then◌else◌, true, List, [], ◌∷◌, length, Option, Some, None}
use Rattle.bus_core.specs.declared.operation.BusEntry.{BusEntry}
use Rattle.bus_core.specs.declared.turn.Step.{Step}
use Rattle.bus_core.specs.declared.turn.Step.TheVariants.{More, Gave, Done}
use Rattle.bus_core.specs.Operation.{loaded}
use Rattle.cmd_bodies.specs.declared.command.Command.{Command}
use Rattle.cmd_bodies.specs.Reply.{reply_at}
use Rattle.cmd_slots.specs.declared.answer.Answer.{Answer}
use Rattle.cmd_slots.specs.declared.answer.Answer.TheVariants.{Delivered, Refused}
use Rattle.cmd_slots.specs.declared.host.Waiting.{Waiting}
use Rattle.cmd_slots.specs.Place.{touches}
use Rattle.cmd_slots.specs.Bytes.{bytes_of}
use Rattle.cmd_slots.specs.Refusal.{delivery_in, refusal_of}
use Rattle.cmd_slots.specs.Question.{IsQuestion}
use Rattle.cmd_slots.specs.Answer.{is_output}
use Rattle.cmd_slots.specs.Mark as marks
use Rattle.cmd_slots.specs.Mark.{SlotMark}
use Rattle.cmd_slots.specs.Host as sides
use Rattle.cmd_slots.specs.Host.{HostStage, Resting, Asker, MayHost, after_host}

-- a command that is asked, and its words
pub record Asking : Type 0 where
  pub command : Command
  pub words : List ℕ

pub record HostView : Type 0 where
  pub slot : ℕ
  pub side : Asker
  pub task : Option Asking
  -- how many commands were answered, by the last word of the entry that was loaded; at first 0
  pub seen : ℕ

abbrev pub fresh : ℕ → HostView
fresh slot = record { slot = slot; side = record { asked = 0; stage = Resting }; task = None; seen = 0 }

-- what its next operation is about
abbrev pub fill_mark : ℕ → List ℕ → ℕ → SlotMark
fill_mark slot words count = if count == length words then marks.Ring slot else marks.Fill slot

abbrev pub task_mark : ℕ → Asking → HostStage → SlotMark
task_mark slot task Resting = marks.Ask slot task.command task.words
task_mark slot task (sides.Filling c words count) = fill_mark slot words count
task_mark slot task (sides.Awaiting c) = marks.Await slot
task_mark slot task (sides.Taking c words) = marks.Await slot

abbrev pub mark_of : ℕ → Option Asking → HostStage → SlotMark
mark_of slot None stage = marks.Foreign
mark_of slot (Some task) stage = task_mark slot task stage

abbrev pub next_mark : HostView → SlotMark
next_mark h = mark_of h.slot h.task h.side.stage

-- what it answers where this word was loaded
abbrev pub shown_answer : ℕ → Step Waiting Answer
shown_answer word =
    if word % 2 == 1 then Gave (record { word = word })
    else if delivery_in word == 0 then More
    else Done (Refused (refusal_of (delivery_in word)))

abbrev pub taken_answer : Command → List ℕ → Step Waiting Answer
taken_answer c words = if is_output c words then Done (Delivered (reply_at c (bytes_of words))) else More

abbrev pub answer_at : HostStage → ℕ → Step Waiting Answer
answer_at (sides.Awaiting c) word = shown_answer word
answer_at (sides.Taking c words) word = taken_answer c (words ++ word ∷ [])
answer_at stage word = More

abbrev pub task_after : Option Asking → Step Waiting Answer → Option Asking
task_after task (Done answer) = None
task_after task step = task

abbrev pub seen_after : HostStage → ℕ → ℕ → ℕ → ℕ
seen_after (sides.Awaiting c) asked seen word = if word % 2 == 1 then asked - 1 else asked
seen_after stage asked seen word = seen

-- how many turns the command still takes, without those that find no answer yet
abbrev pub stage_turns : Asking → HostStage → ℕ
stage_turns task Resting = length task.words + 92
stage_turns task (sides.Filling c words count) = length words - count + 92
stage_turns task (sides.Awaiting c) = 91
stage_turns task (sides.Taking c words) = 90 - length words

abbrev pub turns_left : Option Asking → HostStage → ℕ
turns_left None stage = 0
turns_left (Some task) stage = stage_turns task stage

abbrev pub uncounted : Step Waiting Answer → ℕ
uncounted (Gave waiting) = 1
uncounted step = 0

-- one operation, which keeps the side's rule
pub record HostTurn (old new : HostView) (e : BusEntry) (answer : Step Waiting Answer) : Type 0 where
  pub may : MayHost old.slot old.side (next_mark old) e
  pub inside : touches e.addr ≡ true
  pub side : new.side ≡ after_host old.side (next_mark old) e
  pub answers : answer ≡ answer_at old.side.stage (loaded e)
  pub task : new.task ≡ task_after old.task answer
  pub fewer : turns_left new.task new.side.stage < turns_left old.task old.side.stage + uncounted answer
  pub seen : new.seen ≡ seen_after old.side.stage old.side.asked old.seen (loaded e)
  pub slot : new.slot ≡ old.slot

-- a host that begins to ask a command
abbrev pub Asks : ℕ → Command → Option Asking → Type 0
Asks slot c None = ⊥
Asks slot c (Some task) = (task.command ≡ c) × IsQuestion slot c task.words

-- an idle host that asked what was rung for
abbrev pub forgotten : HostView → HostView
forgotten h = record h { side = record { asked = h.side.asked; stage = Resting }; task = None }
