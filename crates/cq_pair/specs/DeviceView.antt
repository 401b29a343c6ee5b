-- What a queue's device is to a caller, and what a turn of it does.
use Rattle.std.specs.Prelude.{ℕ, ◌≡◌, ◌-◌, ◌<◌, length, true, false, Bool, Option, Some, None}
use Rattle.bus_core.specs.declared.operation.BusEntry.{BusEntry}
use Rattle.bus_core.specs.declared.turn.Step.{Step}
use Rattle.bus_core.specs.declared.turn.Step.TheVariants.{More, Gave, Done}
use Rattle.cqe_format.specs.declared.completion.Cqe.{Cqe}
use Rattle.owner_ring.specs.Place.{touches}
use Rattle.owner_ring.specs.Producer.{Producer, Ready, Filling}
use Rattle.cq_pair.specs.declared.place.CqPlace.{CqPlace}
use Rattle.cq_pair.specs.declared.device.CqSeen.{CqSeen}
use Rattle.cq_pair.specs.declared.device.CqSeen.TheVariants as answers
use Rattle.cq_pair.specs.Place.{ring_of}
use Rattle.cq_pair.specs.Mark.{QueueMark, Publish, Lose, Foreign}
use Rattle.cq_pair.specs.Queue.{QueueEvent, Published, Overrun, Lost}
use Rattle.cq_pair.specs.Device.{QueueDevice, MayDeliver, after_deliver, delivered}
use Rattle.cq_pair.specs.Turn.{task_after}

pub record DeviceView : Type 0 where
  pub place : CqPlace
  pub side : QueueDevice
  -- the completion that it publishes, or drops, while it is at work
  pub task : Option Cqe

-- what its next operation is about
abbrev pub mark_of : Option Cqe → Bool → QueueMark
mark_of None overrun = Foreign
mark_of (Some completion) false = Publish completion
mark_of (Some completion) true = Lose

abbrev pub next_mark : DeviceView → QueueMark
next_mark d = mark_of d.task d.side.overrun

-- what an answer says, while this completion is published
abbrev pub published_says : Option Cqe → ℕ → Option QueueEvent
published_says None index = None
published_says (Some completion) index = Some (Published index completion)

abbrev pub answer_says : Option Cqe → Step (Unit {0}) CqSeen → Option QueueEvent
answer_says task More = None
answer_says task (Gave part) = None
answer_says task (Done (answers.Published index)) = published_says task index
answer_says task (Done (answers.Overrun index ci)) = Some (Overrun index ci)
answer_says task (Done answers.Lost) = Some Lost

-- how many turns the task still takes
abbrev pub publish_turns : Producer → ℕ
publish_turns (Ready index) = 9
publish_turns (Filling index words) = 8 - length words

abbrev pub turns_for : Bool → Producer → ℕ
turns_for true producer = 1
turns_for false producer = publish_turns producer

abbrev pub turns_left : Option Cqe → QueueDevice → ℕ
turns_left None side = 0
turns_left (Some completion) side = turns_for side.overrun side.producer

-- one operation, which keeps the side's rule
pub record DeviceTurn (old new : DeviceView) (e : BusEntry) (answer : Step (Unit {0}) CqSeen) : Type 0 where
  pub may : MayDeliver old.place old.side (next_mark old) e
  pub inside : touches (ring_of old.place) e.addr ≡ true
  pub side : new.side ≡ after_deliver old.place old.side (next_mark old) e
  pub says : answer_says old.task answer ≡ delivered old.place old.side (next_mark old) e
  pub task : new.task ≡ task_after old.task answer
  pub fewer : turns_left new.task new.side < turns_left old.task old.side
  pub place : new.place ≡ old.place
