-- What a queue's host is to a caller, and what a turn of it does.
use Rattle.std.specs.Prelude.{ℕ, ◌≡◌, ◌-◌, ◌<◌, length, true, Option, Some, None}
use Rattle.bus_core.specs.declared.operation.BusEntry.{BusEntry}
use Rattle.bus_core.specs.declared.turn.Step.{Step}
use Rattle.bus_core.specs.declared.turn.Step.TheVariants.{More, Gave, Done}
use Rattle.bus_core.specs.Operation.{loaded}
use Rattle.owner_ring.specs.Place.{touches}
use Rattle.owner_ring.specs.Consumer.{Consumer, Waiting, Reading, acked_index, next_index}
use Rattle.owner_ring.specs.ConsumerView as ring_side
use Rattle.cq_pair.specs.declared.place.CqPlace.{CqPlace}
use Rattle.cq_pair.specs.declared.host.CqDone.{CqDone}
use Rattle.cq_pair.specs.declared.host.CqDone.TheVariants as answers
use Rattle.cq_pair.specs.Place.{ring_of}
use Rattle.cq_pair.specs.Mark.{QueueMark, Look, Read, Take, Acknowledge, Foreign, ring_mark}
use Rattle.cq_pair.specs.Queue.{QueueEvent, Empty, Acked}
use Rattle.cq_pair.specs.Host.{MayPoll, after_poll, polled, took}
use Rattle.cq_pair.specs.Turn.{task_after}

pub data HostTask : Type 0 where
  PollOne : HostTask
  Acknowledgement : HostTask

pub record HostView : Type 0 where
  pub place : CqPlace
  pub side : Consumer
  pub task : Option HostTask
  -- up to which index the last owner word showed the queue as published, at first 0
  pub seen : ℕ

-- a turn that answers with a completion takes it
abbrev pub poll_mark : Consumer → Step (Unit {0}) CqDone → QueueMark
poll_mark side (Done (answers.Took completion)) = Take completion
poll_mark (Waiting acked next) _ = Look next
poll_mark (Reading acked next index last words) _ = Read

-- what the operation of a turn with this answer is about
abbrev pub mark_of : Option HostTask → Consumer → Step (Unit {0}) CqDone → QueueMark
mark_of None side answer = Foreign
mark_of (Some PollOne) side answer = poll_mark side answer
mark_of (Some Acknowledgement) side answer = Acknowledge (next_index side)

abbrev pub turn_mark : HostView → Step (Unit {0}) CqDone → QueueMark
turn_mark h answer = mark_of h.task h.side answer

abbrev pub answer_says : Consumer → Step (Unit {0}) CqDone → Option QueueEvent
answer_says side More = None
answer_says side (Gave part) = None
answer_says side (Done (answers.Took completion)) = took side completion
answer_says side (Done (answers.Empty index word)) = Some (Empty index)
answer_says side (Done (answers.Acked ci)) = Some (Acked ci)

-- how many turns the task still takes
abbrev pub poll_turns : Consumer → ℕ
poll_turns (Waiting acked next) = 8
poll_turns (Reading acked next index last words) = 7 - length words

abbrev pub turns_left : Option HostTask → Consumer → ℕ
turns_left None side = 0
turns_left (Some PollOne) side = poll_turns side
turns_left (Some Acknowledgement) side = 1

-- one operation, which keeps the side's rule
pub record HostTurn (old new : HostView) (e : BusEntry) (answer : Step (Unit {0}) CqDone) : Type 0 where
  pub may : MayPoll old.place old.side (turn_mark old answer) e
  pub inside : touches (ring_of old.place) e.addr ≡ true
  pub side : new.side ≡ after_poll old.place old.side (turn_mark old answer) e
  pub says : answer_says old.side answer ≡ polled old.place old.side (turn_mark old answer) e
  -- the word of an entry that software does not own is the one that was loaded
  pub word : (index word : ℕ) → answer ≡ Done (answers.Empty index word) → word ≡ loaded e
  pub task : new.task ≡ task_after old.task answer
  pub fewer : turns_left new.task new.side < turns_left old.task old.side
  pub seen : new.seen ≡ ring_side.seen_after (ring_of old.place) (ring_mark (turn_mark old answer)) old.seen e
  pub place : new.place ≡ old.place

-- a host that goes back to the index that it acknowledged last, and is idle
abbrev pub forgotten : HostView → HostView
forgotten h = record h { side = Waiting (acked_index h.side) (acked_index h.side); task = None }
