-- What a freer is to a caller, and what a turn of it does.
use Rattle.std.specs.Prelude.{ℕ, ◌≡◌, ◌<◌, true, Option, Some, None}
use Rattle.bus_core.specs.declared.operation.BusEntry.{BusEntry}
use Rattle.bus_core.specs.declared.turn.Step.{Step}
use Rattle.bus_core.specs.declared.turn.Step.TheVariants.{More, Done}
use Rattle.bus_core.specs.Operation.{loaded}
use Rattle.srq_list.specs.declared.place.SrqPlace.{SrqPlace}
use Rattle.srq_list.specs.declared.freer.SrqFreed.{SrqFreed}
use Rattle.srq_list.specs.declared.freer.SrqFreed.TheVariants as answers
use Rattle.srq_list.specs.Place.{touches, max_post}
use Rattle.srq_list.specs.Mark.{SrqMark, Lookup, Link, Free, Foreign}
use Rattle.srq_list.specs.Freer.{Freer, MayServe, after_serve}
use Rattle.srq_list.specs.Turn.{task_after}

pub data FreerTask : Type 0 where
  -- the id of this slot
  Search : (slot : ℕ) → FreerTask
  -- this slot is freed
  Release : (slot : ℕ) → FreerTask

pub record FreerView : Type 0 where
  pub place : SrqPlace
  pub side : Freer
  pub task : Option FreerTask

abbrev pub release_mark : ℕ → Option ℕ → SrqMark
release_mark slot None = Link slot
release_mark slot (Some linked) = Free slot

-- what its next operation is about
abbrev pub mark_of : Option FreerTask → Freer → SrqMark
mark_of None f = Foreign
mark_of (Some (Search slot)) f = Lookup slot
mark_of (Some (Release slot)) f = release_mark slot f.linked

abbrev pub next_mark : FreerView → SrqMark
next_mark f = mark_of f.task f.side

-- what it answers: a lookup the id, a free that it freed, at the tail word
abbrev pub serve_answer : SrqMark → BusEntry → Step (Unit {0}) SrqFreed
serve_answer (Lookup slot) e = Done (answers.Found (loaded e))
serve_answer (Free slot) e = Done answers.Freed
serve_answer _ e = More

-- how many turns the task still takes
abbrev pub release_turns : Option ℕ → ℕ
release_turns None = 2
release_turns (Some linked) = 1

abbrev pub turns_left : Option FreerTask → Option ℕ → ℕ
turns_left None linked = 0
turns_left (Some (Search slot)) linked = 1
turns_left (Some (Release slot)) linked = release_turns linked

-- one operation, which keeps the freer's rule
pub record FreerTurn (old new : FreerView) (e : BusEntry) (answer : Step (Unit {0}) SrqFreed) : Type 0 where
  pub may : MayServe old.place old.side (next_mark old) e
  pub inside : touches old.place e.addr ≡ true
  pub side : new.side ≡ after_serve old.side (next_mark old)
  pub answer_is : answer ≡ serve_answer (next_mark old) e
  pub task : new.task ≡ task_after old.task answer
  pub fewer : turns_left new.task new.side.linked < turns_left old.task old.side.linked
  pub place : new.place ≡ old.place

-- the freer's side before its first operation: the last slot is the last free one
abbrev pub fresh_side : SrqPlace → Freer
fresh_side place = record { tail = max_post place; linked = None }

abbrev pub fresh : SrqPlace → FreerView
fresh place = record { place = place; side = fresh_side place; task = None }

-- a freer that has dropped what is under way
abbrev pub forgotten : FreerView → FreerView
forgotten f = record { place = f.place; side = record { tail = f.side.tail; linked = None }; task = None }
