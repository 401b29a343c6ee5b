-- What a queue's device is to a caller, and what a turn of it does.
use Rattle.std.specs.Prelude.{ℕ, ◌≡◌, ◌-◌, ◌<◌, ◌==◌, length, true, false, Option, Some, None, if◌then◌else◌}
use Rattle.bus_core.specs.declared.operation.BusEntry.{BusEntry}
use Rattle.bus_core.specs.declared.turn.Step.{Step}
use Rattle.bus_core.specs.declared.turn.Step.TheVariants.{More, Gave, Done}
use Rattle.bus_core.specs.Operation.{loaded}
use Rattle.work_entries.specs.declared.units.SendWords.{SendWords}
use Rattle.counted_ring.specs.declared.place.WqPlace.{WqPlace}
use Rattle.counted_ring.specs.declared.device.WqSeen.{WqSeen}
use Rattle.counted_ring.specs.declared.device.WqSeen.TheVariants as answers
use Rattle.counted_ring.specs.Place.{touches, shown, entry_words, IsClearBehind}
use Rattle.counted_ring.specs.Queue.{WqEvent, Counted, Took}
use Rattle.counted_ring.specs.Device.{WqReader, MayLook, MayRecord, MayRead, after_look, after_record, after_read, read_says}
use Rattle.counted_ring.specs.Mark as marks
use Rattle.counted_ring.specs.Mark.{WqMark}
use Rattle.counted_ring.specs.Turn.{task_after}

pub data DeviceTask : Type 0 where
  Look : DeviceTask
  Record : DeviceTask
  Read : DeviceTask

pub record DeviceView : Type 0 where
  pub place : WqPlace
  pub side : WqReader
  pub task : Option DeviceTask

-- what its next operation is about; a receive is passed after the turn
abbrev pub mark_of : Option DeviceTask → WqMark
mark_of None = marks.Foreign
mark_of (Some Look) = marks.Look
mark_of (Some Record) = marks.Record false
mark_of (Some Read) = marks.Read

-- the rule of an operation with this mark, the side after it, and what it says
abbrev pub MayDeliver : WqPlace → WqReader → WqMark → BusEntry → Type 0
MayDeliver place d marks.Look e = MayLook place d e
MayDeliver place d (marks.Record passes) e = MayRecord place d passes e
MayDeliver place d marks.Read e = MayRead place d e
MayDeliver place d _ e = ⊥

abbrev pub after_deliver : WqPlace → WqReader → WqMark → BusEntry → WqReader
after_deliver place d marks.Look e = after_look d e
after_deliver place d (marks.Record passes) e = after_record d passes e
after_deliver place d marks.Read e = after_read place d e
after_deliver place d _ e = d

abbrev pub delivered : WqPlace → WqReader → WqMark → BusEntry → Option WqEvent
delivered place d marks.Look e = None
delivered place d (marks.Record passes) e = Some (Counted (shown d.next (loaded e)) passes)
delivered place d marks.Read e = read_says place d e
delivered place d _ e = None

-- a look says by its answer whether the register is another one
abbrev pub answer_says : WqPlace → Step (Unit {0}) WqSeen → Option WqEvent
answer_says place More = None
answer_says place (Gave part) = None
answer_says place (Done answers.Same) = None
answer_says place (Done answers.Changed) = None
answer_says place (Done (answers.Count ready)) = Some (Counted ready false)
answer_says place (Done (answers.Read entry)) = Some (Took (entry_words place entry))

-- how many turns the task still takes
abbrev pub turns_left : Option DeviceTask → WqReader → ℕ
turns_left None d = 0
turns_left (Some Look) d = 1
turns_left (Some Record) d = 1
turns_left (Some Read) d = 33 - length d.words

-- one operation, which keeps the device's rule
pub record DeviceTurn (old new : DeviceView) (e : BusEntry) (answer : Step (Unit {0}) WqSeen) : Type 0 where
  pub may : MayDeliver old.place old.side (mark_of old.task) e
  pub inside : touches old.place e.addr ≡ true
  pub side : new.side ≡ after_deliver old.place old.side (mark_of old.task) e
  pub says : answer_says old.place answer ≡ delivered old.place old.side (mark_of old.task) e
  -- a register that was loaded is the same as the last one, or it changed
  pub looked : old.task ≡ Some Look → answer ≡ (if loaded e == old.side.register then Done answers.Same else Done answers.Changed)
  -- blocks that were counted are ready
  pub counted : (ready : ℕ) → answer ≡ Done (answers.Count ready) → new.side.ready ≡ ready
  -- an entry that was read has no word behind its blocks
  pub behind : (entry : SendWords) → answer ≡ Done (answers.Read entry) → IsClearBehind old.place entry
  pub task : new.task ≡ task_after old.task answer
  pub fewer : turns_left new.task new.side < turns_left old.task old.side
  pub place : new.place ≡ old.place
