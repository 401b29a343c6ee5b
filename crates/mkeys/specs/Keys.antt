-- The live keys, and what a key permits.
use Rattle.std.specs.Prelude.{ℕ, ◌≡◌, ◌/◌, ◌%◌, ◌<◌, None, Some, IsSome}
use Rattle.std.specs.Ordering.{nat_cmp}
use Rattle.std.specs.FinMap as map
use Rattle.mkeys.specs.declared.region.Right.{Right}
use Rattle.mkeys.specs.declared.region.KeyRegion.{KeyRegion}
use Rattle.mkeys.specs.declared.table.TheConstants.{PLACES}
use Rattle.mkeys.specs.Region.{Allows}

-- the live keys: the region of each index that has one
abbrev pub Keys : Type 0
Keys = map.FinMap nat_cmp KeyRegion

-- a key is an index, with the variant of its region in the low 8 bits
abbrev pub index_of : ℕ → ℕ
index_of key = key / 256

abbrev pub variant_of : ℕ → ℕ
variant_of key = key % 256

-- The key is that of this region: its index lives, and its variant is the region's.
pub record Names (keys : Keys) (key : ℕ) (region : KeyRegion) : Type 0 where
  pub index : map.get keys (index_of key) ≡ Some region
  pub variant : region.variant ≡ variant_of key

-- the key is that of some region
abbrev pub Lives : Keys → ℕ → Type 0
Lives keys key = (region : KeyRegion) × Names keys key region

-- The key permits a protection domain the use of `len` bytes from an address on: it is that of a region which allows it.
abbrev pub Permits : Keys → ℕ → ℕ → ℕ → ℕ → Right → Type 0
Permits keys key pd addr len right = (region : KeyRegion) × Names keys key region × Allows region pd addr len right

-- no region has this index, and each lower index has one
pub record IsLowestFree (keys : Keys) (index : ℕ) : Type 0 where
  pub inside : index < PLACES
  pub free : map.get keys index ≡ None
  pub lower : (other : ℕ) → other < index → IsSome (map.get keys other)
