-- Which ends a retirer stores: those that it found, in the order in which it found them.
use Rattle.std.specs.Prelude.{ℕ, ◌≡◌, ◌==◌, ◌++◌, List, [], ◌∷◌, drop, slice_get, Option, Some, if◌then◌else◌}
use Rattle.bus_core.specs.declared.operation.BusEntry.{BusEntry}
use Rattle.counted_ring.specs.declared.place.WqPlace.{WqPlace}
use Rattle.counted_ring.specs.Queue.{WqEvent, Found, Retired}
use Rattle.counted_ring.specs.Mark.{WqMark, Lookup, Retire}
use Rattle.counted_ring.specs.Retirer.{Retirer}
use Rattle.counted_ring.specs.RetirerView.{MayServe, after_serve, served}

-- the retirer, and the ends that it found and did not store yet, the oldest first
pub record Finder : Type 0 where
  pub retirer : Retirer
  pub ends : List ℕ

-- a lookup that goes back to the tail drops the ends that were found
abbrev pub kept_ends : Finder → WqMark → List ℕ
kept_ends f (Lookup counter from) = if from == f.retirer.found then f.ends else []
kept_ends f _ = f.ends

abbrev pub ends_with : List ℕ → Option WqEvent → List ℕ
ends_with ends (Some (Found counter id end)) = ends ++ end ∷ []
ends_with ends (Some (Retired end)) = drop 1 ends
ends_with ends _ = ends

-- an end that is stored is the first of them
abbrev pub IsFirstEnd : List ℕ → WqMark → Type 0
IsFirstEnd ends (Retire end) = slice_get ends 0 ≡ Some end
IsFirstEnd ends _ = Unit {0}

-- the rule of an operation of the retirer's, the side after it, and what it says
pub record MayFind (place : WqPlace) (f : Finder) (mark : WqMark) (e : BusEntry) : Type 0 where
  pub serves : MayServe place f.retirer mark e
  pub first : IsFirstEnd f.ends mark

abbrev pub after_find : WqPlace → Finder → WqMark → BusEntry → Finder
after_find place f mark e = record { retirer = after_serve place f.retirer mark e; ends = ends_with (kept_ends f mark) (served place f.retirer mark e) }

abbrev pub finds : WqPlace → Finder → WqMark → BusEntry → Option WqEvent
finds place f mark e = served place f.retirer mark e
