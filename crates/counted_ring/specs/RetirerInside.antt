-- How the fields of a retirer are seen.
use Rattle.std.specs.Prelude.{ℕ, ◌≡◌, ◌+◌, ◌<◌, ◌≤◌, ◌^◌, true, false, Option, Some, None}
use Rattle.counted_ring.specs.declared.place.WqPlace.{WqPlace}
use Rattle.counted_ring.specs.declared.retirer.Phase.{Phase}
use Rattle.counted_ring.specs.declared.retirer.Phase.TheVariants.{Idle, Naming, Counting, Retiring}
use Rattle.counted_ring.specs.declared.retirer.WqRetirer.TheInside.{Inside}
use Rattle.counted_ring.specs.Place.{IsPlace, is_send}
use Rattle.counted_ring.specs.Retirer.{Asked}
use Rattle.counted_ring.specs.RetirerView.{RetirerView, RetirerTask, Lookups, Retirement}

abbrev pub asked_in : Phase → ℕ → Option Asked
asked_in Idle id = None
asked_in (Naming counter) id = None
asked_in (Counting counter) id = Some (record { counter = counter; id = id })
asked_in (Retiring end) id = None

abbrev pub task_in : Phase → Option RetirerTask
task_in Idle = None
task_in (Naming counter) = Some (Lookups counter)
task_in (Counting counter) = Some (Lookups counter)
task_in (Retiring end) = Some (Retirement end)

abbrev pub retirer_view : Inside → RetirerView
retirer_view a = record { place = a.place; side = record { tail = a.tail; found = a.found; asked = asked_in a.phase a.id }; task = task_in a.phase }

pub record IsRetiring (place : WqPlace) (tail found end : ℕ) : Type 0 where
  pub later : tail < end
  pub within : end ≤ found
  pub one : is_send place ≡ false → end ≡ tail + 1

abbrev pub IsAtWork : WqPlace → ℕ → ℕ → Phase → Type 0
IsAtWork place tail found Idle = Unit {0}
IsAtWork place tail found (Naming counter) = found < 2 ^ 62
IsAtWork place tail found (Counting counter) = is_send place ≡ true
IsAtWork place tail found (Retiring end) = IsRetiring place tail found end

pub record IsRetirer (a : Inside) : Type 0 where
  pub place_ok : IsPlace a.place
  pub work : IsAtWork a.place a.tail a.found a.phase
