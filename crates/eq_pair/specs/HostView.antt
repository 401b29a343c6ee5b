-- What a queue's host is to a caller, and what a turn of it does.
use Rattle.std.specs.Prelude.{ℕ, ◌≡◌, ◌+◌, ◌-◌, ◌<◌, Bool, true, false, length, Option, Some, None, if◌then◌else◌}
use Rattle.bus_core.specs.declared.operation.BusEntry.{BusEntry}
use Rattle.bus_core.specs.declared.turn.Step.{Step}
use Rattle.bus_core.specs.declared.turn.Step.TheVariants.{More, Done}
use Rattle.bus_core.specs.Operation.{loaded}
use Rattle.verbs_types.specs.declared.completion.EventRecord.{EventRecord}
use Rattle.owner_ring.specs.Place.{is_owned, touches}
use Rattle.eq_pair.specs.declared.place.EqPlace.{EqPlace}
use Rattle.eq_pair.specs.declared.host.EqTaken.{EqTaken}
use Rattle.eq_pair.specs.declared.host.EqTaken.TheVariants as answers
use Rattle.eq_pair.specs.Place.{ring_of}
use Rattle.eq_pair.specs.Mark.{EqMark, Look, Read, Take, Register}
use Rattle.eq_pair.specs.Queue.{EqEvent, Written, Took, NoEvent, Gave}
use Rattle.eq_pair.specs.Host.{EventTaker, Waiting, Reading, Holding, next_index, MayTake, after_take, takes}

pub record HostView : Type 0 where
  pub place : EqPlace
  pub side : EventTaker
  -- whether a taking is under way
  pub taking : Bool
  -- up to which index the last owner word showed the queue as written, at first 0
  pub seen : ℕ

-- the event that was taken and is not given yet
abbrev pub held : EventTaker → Option EventRecord
held (Holding index event) = Some event
held _ = None

-- a read after which the event is held takes it
abbrev pub read_mark : EventTaker → EqMark
read_mark (Holding index event) = Take event
read_mark _ = Read

-- what the operation of a turn between these states is about
abbrev pub mark_of : EventTaker → EventTaker → EqMark
mark_of (Waiting index) after = Look
mark_of (Reading index last words) after = read_mark after
mark_of (Holding index event) after = Register

abbrev pub turn_mark : HostView → HostView → EqMark
turn_mark old new = mark_of old.side new.side

-- what the operation says
abbrev pub turn_says : HostView → HostView → BusEntry → Option EqEvent
turn_says old new e = takes old.place old.side (turn_mark old new) e

-- The answer of an operation that says this, where it loaded this word. An event that was taken is not given before the register is stored.
abbrev pub answer_of : Option EqEvent → ℕ → Step (Unit {0}) EqTaken
answer_of (Some (NoEvent index)) word = Done (answers.NoEvent word)
answer_of (Some (Gave index event)) word = Done (answers.Event event)
answer_of (Some (Took index event)) word = More
answer_of (Some (Written index event)) word = More
answer_of None word = More

abbrev pub taking_after : Option EqEvent → Bool
taking_after (Some (NoEvent index)) = false
taking_after (Some (Gave index event)) = false
taking_after (Some (Took index event)) = true
taking_after (Some (Written index event)) = true
taking_after None = true

abbrev pub seen_after : EqPlace → EventTaker → ℕ → BusEntry → ℕ
seen_after place (Waiting index) seen e = if is_owned (ring_of place) index (loaded e) then index + 1 else index
seen_after place (Reading index last words) seen e = seen
seen_after place (Holding index event) seen e = seen

-- how many turns the taking still takes
abbrev pub take_turns : EventTaker → ℕ
take_turns (Waiting index) = 9
take_turns (Reading index last words) = 8 - length words
take_turns (Holding index event) = 1

abbrev pub turns_left : Bool → EventTaker → ℕ
turns_left taking side = if taking then take_turns side else 0

-- one operation, which keeps the side's rule
pub record HostTurn (old new : HostView) (e : BusEntry) (answer : Step (Unit {0}) EqTaken) : Type 0 where
  pub may : MayTake old.place old.side (turn_mark old new) e
  pub inside : touches (ring_of old.place) e.addr ≡ true
  pub side : new.side ≡ after_take old.place old.side (turn_mark old new) e
  pub says : answer ≡ answer_of (turn_says old new e) (loaded e)
  pub taking : new.taking ≡ taking_after (turn_says old new e)
  pub fewer : turns_left new.taking new.side < turns_left old.taking old.side
  pub seen : new.seen ≡ seen_after old.place old.side old.seen e
  pub place : new.place ≡ old.place

-- a host that goes back to the index that its register shows, and is idle
abbrev pub forgotten : HostView → HostView
forgotten h = record h { side = Waiting (next_index h.side); taking = false }
