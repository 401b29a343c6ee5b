-- That the free slots are those from the head to the tail word, along the next indices.
use Rattle.std.specs.Prelude.{ℕ, ◌≡◌, List, [], ◌∷◌}
use Rattle.bus_core.specs.Trace.{Memory}
use Rattle.srq_list.specs.declared.place.SrqPlace.{SrqPlace}
use Rattle.srq_list.specs.Place.{next_at, next_of}

-- the next indices lead from this slot along these to the one of the tail word
abbrev pub LeadsAlong : SrqPlace → Memory → ℕ → List ℕ → Type 0
LeadsAlong place m slot [] = m place.tail ≡ slot
LeadsAlong place m slot (next ∷ slots) = (next_of place (m (next_at place slot)) ≡ next) × LeadsAlong place m next slots

-- so these slots, of which the head is the first, are the chain from it to the tail word
pub record IsFreeChain (place : SrqPlace) (m : Memory) (head : ℕ) (slots : List ℕ) : Type 0 where
  pub others : List ℕ
  pub slots_are : slots ≡ head ∷ others
  pub chain : LeadsAlong place m head others
