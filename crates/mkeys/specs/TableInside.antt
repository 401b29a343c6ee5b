-- How the fields of a table of keys are seen.
use Rattle.std.specs.Prelude.{ℕ, ◌≡◌, ◌+◌, ◌<◌, not, List, [], ◌∷◌, length, slice_index_or, Option, None, Some, is_some}
use Rattle.std.specs.FinMap as map
use Rattle.mkeys.specs.declared.region.KeyRegion.{KeyRegion}
use Rattle.mkeys.specs.declared.table.KeyTable.TheInside.{Inside}
use Rattle.mkeys.specs.declared.table.TheConstants.{PLACES}
use Rattle.mkeys.specs.FreePlaces.{is_free}
use Rattle.mkeys.specs.Keys.{Keys}

-- the regions of these places, each with its index, where the first place has this index
abbrev pub entries_from : ℕ → List (Option KeyRegion) → List (ℕ × KeyRegion)
entries_from index [] = []
entries_from index (None ∷ places) = entries_from (index + 1) places
entries_from index (Some region ∷ places) = (index, region) ∷ entries_from (index + 1) places

abbrev pub keys_of : List (Option KeyRegion) → Keys
keys_of places = map.from_entries (entries_from 0 places)

-- there are as many places as keys may live, and those that are marked as free have no region
pub record IsTable (places : List (Option KeyRegion)) (free : List ℕ) : Type 0 where
  pub count : length places ≡ PLACES
  pub marked : (index : ℕ) → index < PLACES → is_free free index ≡ not (is_some (slice_index_or places index None))

abbrev pub table_view : Inside → Keys
table_view a = keys_of a.places.items

abbrev pub table_invariant : Inside → Type 0
table_invariant a = IsTable a.places.items a.free
