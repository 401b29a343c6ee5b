-- What an event reader is to a caller, and what a turn of it does.
use Rattle.std.specs.Prelude.{◌≡◌, ◌==◌, Bool, true, false, Option, Some, None}
use Rattle.verbs_types.specs.declared.completion.EventRecord.{EventRecord}
use Rattle.verbs_types.specs.declared.completion.EventRecord.TheVariants.{Completion, CqError}
use Rattle.bus_core.specs.declared.operation.BusEntry.{BusEntry}
use Rattle.bus_core.specs.declared.turn.Step.{Step}
use Rattle.cq_arms.specs.declared.place.ArmPlace.{ArmPlace}
use Rattle.cq_arms.specs.declared.reader.Raised.{Raised}
use Rattle.cq_arms.specs.Place.{touches}
use Rattle.cq_arms.specs.Arms.{ArmEvent}
use Rattle.cq_arms.specs.Arms as arms
use Rattle.cq_arms.specs.Mark.{ArmMark, Raise, Foreign}
use Rattle.cq_arms.specs.Reader.{Reader, MayRaise, after_raise, raise_says}
use Rattle.cq_arms.specs.Turn.{answered}

pub record ReaderView : Type 0 where
  pub place : ArmPlace
  pub side : Reader
  -- whether it is to count an event
  pub raising : Bool

-- an event counts that tells of a completion in the queue, and no other
abbrev pub counts : ArmPlace → EventRecord → Bool
counts place (Completion cq) = cq == place.number
counts place (CqError cq) = false

-- what its next operation is about
abbrev pub raise_mark : Bool → ArmMark
raise_mark true = Raise
raise_mark false = Foreign

abbrev pub next_mark : ReaderView → ArmMark
next_mark r = raise_mark r.raising

-- the answer that tells of an event
abbrev pub raised_as : Option ArmEvent → Option Raised
raised_as (Some (arms.Raised number)) = Some (record { number = number })
raised_as _ = None

-- one operation, which keeps the side's rule and ends what was begun
pub record ReaderTurn (old new : ReaderView) (e : BusEntry) (answer : Step (Unit {0}) Raised) : Type 0 where
  pub may : MayRaise old.place old.side (next_mark old) e
  pub inside : touches old.place e.addr ≡ true
  pub side : new.side ≡ after_raise old.side (next_mark old)
  pub says : answered answer ≡ raised_as (raise_says old.side (next_mark old))
  pub ends : new.raising ≡ false
  pub place : new.place ≡ old.place
