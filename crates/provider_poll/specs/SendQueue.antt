-- A send queue whose completions are polled, as its poller sees it.
use Rattle.std.specs.Prelude.{ℕ, ◌≡◌, ◌^◌, ◌&&◌, nat_le, nat_lt, if◌then◌else◌, Bool, true, false, Option, Some, None}
use Rattle.bus_core.specs.declared.operation.BusEntry.{BusEntry}
use Rattle.bus_core.specs.declared.turn.Step.{Step}
use Rattle.counted_ring.specs.declared.place.WqPlace.{WqPlace}
use Rattle.counted_ring.specs.declared.retirer.Retired.{Retired}
use Rattle.counted_ring.specs.Retirer.{Asked, Retirer, forgotten_side}
use Rattle.counted_ring.specs.RetirerView.{RetirerView, RetirerTask, RetirerTurn, Lookups, Retirement}

pub record SendView : Type 0 where
  -- of the queue pair
  pub number : ℕ
  pub place : WqPlace
  pub side : Retirer

abbrev pub fresh_retirer : Retirer
fresh_retirer = record { tail = 0; found = 0; asked = None }

abbrev pub fresh_queue : ℕ → WqPlace → SendView
fresh_queue number place = record { number = number; place = place; side = fresh_retirer }

-- between two turns a retirer is idle, or in the lookup of a counter whose id it loaded
abbrev pub task_of : Option Asked → Option RetirerTask
task_of None = None
task_of (Some a) = Some (Lookups a.counter)

abbrev pub retirer_of : SendView → RetirerView
retirer_of q = record { place = q.place; side = q.side; task = task_of q.side.asked }

abbrev pub is_idle : Option Asked → Bool
is_idle None = true
is_idle (Some a) = false

-- an end that was found, above the tail; ends of 2 ^ 62 and more are no counts of requests
abbrev pub may_retire : SendView → ℕ → Bool
may_retire q end = is_idle q.side.asked && nat_lt q.side.tail end && nat_le end q.side.found && nat_lt end (2 ^ 62)

-- A lookup goes on from the end that was found last. Where that is no count of requests, it goes back to the tail.
abbrev pub side_before : Retirer → Retirer
side_before r = if nat_lt r.found (2 ^ 62) then r else forgotten_side r

abbrev pub asking_with : ℕ → SendView → Option Asked → RetirerView
asking_with counter q None = record { place = q.place; side = side_before q.side; task = Some (Lookups counter) }
asking_with counter q (Some a) = record { place = q.place; side = q.side; task = Some (Lookups a.counter) }

-- a retirer at the lookup of this counter, or in the one that has begun
abbrev pub asking : ℕ → SendView → RetirerView
asking counter q = asking_with counter q q.side.asked

abbrev pub retiring : ℕ → SendView → RetirerView
retiring end q = record { place = q.place; side = q.side; task = Some (Retirement end) }

-- one operation, by which a retirer at this work goes on
pub record SendTurn (old new : SendView) (work : RetirerView) (e : BusEntry) (answer : Step (Unit {0}) Retired) : Type 0 where
  pub retirer : RetirerTurn work (retirer_of new) e answer
  pub number : new.number ≡ old.number

abbrev pub forgotten_queue : SendView → SendView
forgotten_queue q = record q { side = forgotten_side q.side }
