-- The needs of a key in the order in which they are looked at, and the first that is not met.
use Rattle.std.specs.Prelude.{ℕ, ◌==◌, Bool, true, false, List, [], ◌∷◌, ◌++◌, Option, None, Some, Result, Ok, Err}
use Rattle.std.specs.FinMap as map
use Rattle.mkeys.specs.declared.fault.KeyFault.{KeyFault}
use Rattle.mkeys.specs.declared.fault.KeyFault.TheVariants.{Index, Variant, Pd, Right, Range}
use Rattle.mkeys.specs.declared.region.Right as kinds
use Rattle.mkeys.specs.declared.region.KeyRegion.{KeyRegion}
use Rattle.mkeys.specs.Region.{has_right, is_within}
use Rattle.mkeys.specs.Keys.{Keys, index_of, variant_of}

-- a need, and the fault where it is not met
pub record Need : Type 0 where
  pub fault : KeyFault
  pub is_met : Bool

abbrev pub failing : Bool → KeyFault → Option KeyFault → Option KeyFault
failing true fault others = others
failing false fault others = Some fault

abbrev pub first_failing : List Need → Option KeyFault
first_failing [] = None
first_failing (need ∷ needs) = failing need.is_met need.fault (first_failing needs)

-- what a key needs to be that of a region, given what lives at its index
abbrev pub needs_of_key : Option KeyRegion → ℕ → List Need
needs_of_key None variant = record { fault = Index; is_met = false } ∷ []
needs_of_key (Some region) variant = record { fault = Variant; is_met = region.variant == variant } ∷ []

-- what a use needs of the region
abbrev pub needs_of_use : Option KeyRegion → ℕ → ℕ → ℕ → kinds.Right → List Need
needs_of_use None pd addr len right = []
needs_of_use (Some region) pd addr len right =
    record { fault = Pd; is_met = region.pd == pd }
    ∷ record { fault = Right; is_met = has_right region.rights right }
    ∷ record { fault = Range; is_met = is_within region addr len }
    ∷ []

-- the first need of a key that is not met, as it stands and for a use
abbrev pub key_fault : Keys → ℕ → Option KeyFault
key_fault keys key = first_failing (needs_of_key (map.get keys (index_of key)) (variant_of key))

abbrev pub use_fault : Keys → ℕ → ℕ → ℕ → ℕ → kinds.Right → Option KeyFault
use_fault keys key pd addr len right =
    first_failing (needs_of_key (map.get keys (index_of key)) (variant_of key) ++ needs_of_use (map.get keys (index_of key)) pd addr len right)

-- success, unless there is a fault
abbrev pub ok_unless : Option KeyFault → Result (Unit {0}) KeyFault
ok_unless None = Ok tt
ok_unless (Some fault) = Err fault
