-- The rule of the retirer, over its own operations on the queue's words.
use Rattle.std.specs.Prelude.{ℕ, ◌≡◌, ◌+◌, ◌%◌, ◌^◌, ◌<◌, ◌≤◌, ◌⊎◌, false, Option, Some, None, if◌then◌else◌}
use Rattle.bus_core.specs.declared.operation.BusEntry.{BusEntry}
use Rattle.bus_core.specs.Operation.{IsLoad, IsStore, loaded}
use Rattle.counted_ring.specs.declared.place.WqPlace.{WqPlace}
use Rattle.counted_ring.specs.Place.{is_send, id_at, head_at}
use Rattle.counted_ring.specs.Queue.{WqEvent, Named, Found}

-- a counter whose id was loaded
pub record Asked : Type 0 where
  pub counter : ℕ
  pub id : ℕ

-- the tail that was stored last, the end that was found last, and what a lookup of a send has loaded so far
pub record Retirer : Type 0 where
  pub tail : ℕ
  pub found : ℕ
  pub asked : Option Asked

abbrev pub MayCountFor : WqPlace → Option Asked → BusEntry → Type 0
MayCountFor place None e = ⊥
MayCountFor place (Some a) e = IsLoad (head_at place a.counter) e

-- A tail is an end that was found and not yet stored: for a send one more than a loaded head word, for a receive one more than the last tail. Of those that were found it is the first; the retirer knows the last, and the caller gives the first.
pub record MayRetire (place : WqPlace) (r : Retirer) (end : ℕ) (e : BusEntry) : Type 0 where
  pub later : r.tail < end
  pub found : end ≤ r.found
  pub one : is_send place ≡ false → end ≡ r.tail + 1
  pub store : IsStore place.tail end e

-- A lookup loads the id word of the counter's block and, in a send queue, its head word. It goes on from the last end that was found, or goes back to the tail where what was found is dropped.
pub record MayLookup (place : WqPlace) (r : Retirer) (counter from : ℕ) (e : BusEntry) : Type 0 where
  pub follows : (from ≡ r.found) ⊎ (from ≡ r.tail)
  pub load : IsLoad (id_at place counter) e

abbrev pub after_lookup : WqPlace → Retirer → ℕ → ℕ → BusEntry → Retirer
after_lookup place r counter from e =
    if is_send place then record { tail = r.tail; found = from; asked = Some (record { counter = counter; id = loaded e }) }
    else record { tail = r.tail; found = from + 1; asked = None }

abbrev pub lookup_says : WqPlace → ℕ → ℕ → BusEntry → Option WqEvent
lookup_says place counter from e = if is_send place then Some (Named counter (loaded e)) else Some (Found counter (loaded e) (from + 1))

-- one more than the head word that was loaded
abbrev pub end_after : BusEntry → ℕ
end_after e = (loaded e + 1) % 2 ^ 64

abbrev pub after_count : Retirer → BusEntry → Retirer
after_count r e = record { tail = r.tail; found = end_after e; asked = None }

abbrev pub count_says_for : Option Asked → BusEntry → Option WqEvent
count_says_for None e = None
count_says_for (Some a) e = Some (Found a.counter a.id (end_after e))

abbrev pub count_says : Retirer → BusEntry → Option WqEvent
count_says r e = count_says_for r.asked e

abbrev pub after_retire : Retirer → ℕ → Retirer
after_retire r end = record { tail = end; found = r.found; asked = None }

-- what a retirer knows that has dropped a lookup, or goes back to the tail that it stored
abbrev pub forgotten_side : Retirer → Retirer
forgotten_side r = record { tail = r.tail; found = r.tail; asked = None }

-- What a machine knows of its side may be less than the side's list tells: it has dropped a lookup, or gone back to its tail.
pub record KnowsLess (k r : Retirer) : Type 0 where
  pub tail : k.tail ≡ r.tail
  pub found : (k.found ≡ r.found) ⊎ (k.found ≡ r.tail)
  pub asked : (k.asked ≡ r.asked) ⊎ (k.asked ≡ None)
