-- What a retirer is to a caller, and what a turn of it does.
use Rattle.std.specs.Prelude.{ℕ, ◌≡◌, ◌<◌, true, Option, Some, None}
use Rattle.bus_core.specs.declared.operation.BusEntry.{BusEntry}
use Rattle.bus_core.specs.declared.turn.Step.{Step}
use Rattle.bus_core.specs.declared.turn.Step.TheVariants.{More, Gave, Done}
use Rattle.counted_ring.specs.declared.place.WqPlace.{WqPlace}
use Rattle.counted_ring.specs.declared.retirer.Retired.{Retired}
use Rattle.counted_ring.specs.declared.retirer.Retired.TheVariants as answers
use Rattle.counted_ring.specs.Place.{touches}
use Rattle.counted_ring.specs.Queue.{WqEvent}
use Rattle.counted_ring.specs.Queue as queue
use Rattle.counted_ring.specs.Retirer.{Asked, Retirer, MayLookup, MayCountFor, MayRetire, after_lookup, after_count, after_retire, lookup_says, count_says, forgotten_side}
use Rattle.counted_ring.specs.Mark.{WqMark, Lookup, Count, Retire, Foreign}
use Rattle.counted_ring.specs.Turn.{task_after}

pub data RetirerTask : Type 0 where
  Lookups : (counter : ℕ) → RetirerTask
  Retirement : (end : ℕ) → RetirerTask

pub record RetirerView : Type 0 where
  pub place : WqPlace
  pub side : Retirer
  pub task : Option RetirerTask

abbrev pub lookup_mark : ℕ → ℕ → Option Asked → WqMark
lookup_mark counter found None = Lookup counter found
lookup_mark counter found (Some a) = Count

-- what its next operation is about
abbrev pub mark_of : Option RetirerTask → Retirer → WqMark
mark_of None r = Foreign
mark_of (Some (Lookups counter)) r = lookup_mark counter r.found r.asked
mark_of (Some (Retirement end)) r = Retire end

abbrev pub next_mark : RetirerView → WqMark
next_mark r = mark_of r.task r.side

-- the rule of an operation with this mark, the side after it, and what it says
abbrev pub MayServe : WqPlace → Retirer → WqMark → BusEntry → Type 0
MayServe place r (Lookup counter from) e = MayLookup place r counter from e
MayServe place r Count e = MayCountFor place r.asked e
MayServe place r (Retire end) e = MayRetire place r end e
MayServe place r _ e = ⊥

abbrev pub after_serve : WqPlace → Retirer → WqMark → BusEntry → Retirer
after_serve place r (Lookup counter from) e = after_lookup place r counter from e
after_serve place r Count e = after_count r e
after_serve place r (Retire end) e = after_retire r end
after_serve place r _ e = r

abbrev pub served : WqPlace → Retirer → WqMark → BusEntry → Option WqEvent
served place r (Lookup counter from) e = lookup_says place counter from e
served place r Count e = count_says r e
served place r (Retire end) e = Some (queue.Retired end)
served place r _ e = None

abbrev pub is_found : Option WqEvent → Option Retired
is_found (Some (queue.Found counter id end)) = Some (answers.Found id end)
is_found (Some (queue.Retired end)) = Some (answers.Tail end)
is_found _ = None

abbrev pub answered : Step (Unit {0}) Retired → Option Retired
answered More = None
answered (Gave part) = None
answered (Done answer) = Some answer

-- how many turns the task still takes
abbrev pub lookup_turns : Option Asked → ℕ
lookup_turns None = 2
lookup_turns (Some a) = 1

abbrev pub turns_left : Option RetirerTask → Option Asked → ℕ
turns_left None asked = 0
turns_left (Some (Lookups counter)) asked = lookup_turns asked
turns_left (Some (Retirement end)) asked = 1

-- one operation, which keeps the retirer's rule
pub record RetirerTurn (old new : RetirerView) (e : BusEntry) (answer : Step (Unit {0}) Retired) : Type 0 where
  pub may : MayServe old.place old.side (next_mark old) e
  pub inside : touches old.place e.addr ≡ true
  pub side : new.side ≡ after_serve old.place old.side (next_mark old) e
  pub says : answered answer ≡ is_found (served old.place old.side (next_mark old) e)
  -- the end that was found is the last one
  pub found : (id end : ℕ) → answer ≡ Done (answers.Found id end) → new.side.found ≡ end
  pub task : new.task ≡ task_after old.task answer
  pub fewer : turns_left new.task new.side.asked < turns_left old.task old.side.asked
  pub place : new.place ≡ old.place

-- a retirer that goes back to the tail that it stored last, and is idle
abbrev pub forgotten : RetirerView → RetirerView
forgotten r = record { place = r.place; side = forgotten_side r.side; task = None }
