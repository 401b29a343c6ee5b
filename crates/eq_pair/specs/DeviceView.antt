-- What a queue's device is to a caller, and what a turn of it does.
use Rattle.std.specs.Prelude.{ℕ, ◌≡◌, ◌-◌, ◌<◌, length, true, Option, Some, None}
use Rattle.bus_core.specs.declared.operation.BusEntry.{BusEntry}
use Rattle.bus_core.specs.declared.turn.Step.{Step}
use Rattle.bus_core.specs.declared.turn.Step.TheVariants.{More, Done}
use Rattle.verbs_types.specs.declared.completion.EventRecord.{EventRecord}
use Rattle.owner_ring.specs.Place.{touches}
use Rattle.eq_pair.specs.declared.place.EqPlace.{EqPlace}
use Rattle.eq_pair.specs.Place.{ring_of}
use Rattle.eq_pair.specs.Mark.{EqMark, Write, Foreign}
use Rattle.eq_pair.specs.Queue.{EqEvent}
use Rattle.eq_pair.specs.Device.{EventWriter, MayWrite, after_write, writes}

pub record DeviceView : Type 0 where
  pub place : EqPlace
  pub side : EventWriter
  -- the event that it writes, while it is at work
  pub task : Option EventRecord

-- what its next operation is about
abbrev pub mark_of : Option EventRecord → EqMark
mark_of None = Foreign
mark_of (Some event) = Write event

abbrev pub next_mark : DeviceView → EqMark
next_mark d = mark_of d.task

-- an event is written once its operation says so
abbrev pub answer_of : Option EqEvent → Step (Unit {0}) (Unit {0})
answer_of None = More
answer_of (Some said) = Done tt

abbrev pub task_after : Option EventRecord → Option EqEvent → Option EventRecord
task_after task None = task
task_after task (Some said) = None

-- how many turns the task still takes
abbrev pub turns_left : Option EventRecord → EventWriter → ℕ
turns_left None side = 0
turns_left (Some event) side = 8 - length side.words

-- one operation, which keeps the side's rule
pub record DeviceTurn (old new : DeviceView) (e : BusEntry) (answer : Step (Unit {0}) (Unit {0})) : Type 0 where
  pub may : MayWrite old.place old.side (next_mark old) e
  pub inside : touches (ring_of old.place) e.addr ≡ true
  pub side : new.side ≡ after_write old.side (next_mark old) e
  pub says : answer ≡ answer_of (writes old.side (next_mark old))
  pub task : new.task ≡ task_after old.task (writes old.side (next_mark old))
  pub fewer : turns_left new.task new.side < turns_left old.task old.side
  pub place : new.place ≡ old.place
