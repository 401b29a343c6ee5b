-- Registrations and drops of keys, one after another, and which regions they leave.
use Rattle.std.specs.Prelude.{ℕ, ◌≡◌, ◌≢◌, ◌<◌, List, ◌∷◌, ◌++◌, None, fold}
use Rattle.std.specs.List.{Contains}
use Rattle.std.specs.FinMap as map
use Rattle.bus_core.specs.Follow.{Follows}
use Rattle.mkeys.specs.declared.region.KeyRegion.{KeyRegion}
use Rattle.mkeys.specs.declared.table.TheConstants.{PLACES}
use Rattle.mkeys.specs.Keys.{Keys, index_of, variant_of, Lives}

-- a region got this key, or this key was dropped
pub data KeyEvent : Type 0 where
  Registered : (key : ℕ) (region : KeyRegion) → KeyEvent
  Dropped : (key : ℕ) → KeyEvent

-- A region may get a key whose index is free and whose variant is the region's, which is not 0.
pub record MayRegister (keys : Keys) (key : ℕ) (region : KeyRegion) : Type 0 where
  pub inside : index_of key < PLACES
  pub free : map.get keys (index_of key) ≡ None
  pub variant : variant_of key ≡ region.variant
  pub some_variant : region.variant ≢ 0

-- when an event may happen, and what it makes of the keys
abbrev pub MayHappen : Keys → KeyEvent → Type 0
MayHappen keys (Registered key region) = MayRegister keys key region
MayHappen keys (Dropped key) = Lives keys key

abbrev pub after_event : Keys → KeyEvent → Keys
after_event keys (Registered key region) = map.insert keys (index_of key) region
after_event keys (Dropped key) = map.remove keys (index_of key)

-- events that may happen one after another, from no key on, and the keys that they leave
abbrev pub IsLegal : List KeyEvent → Type 0
IsLegal events = Follows MayHappen after_event map.empty events

abbrev pub keys_after : List KeyEvent → Keys
keys_after events = fold after_event map.empty events

-- the region was registered under this key, and the key was not dropped since
pub record IsRegistered (events : List KeyEvent) (key : ℕ) (region : KeyRegion) : Type 0 where
  pub before : List KeyEvent
  pub since : List KeyEvent
  pub in_order : events ≡ before ++ Registered key region ∷ since
  pub not_dropped : ¬ (Contains since (Dropped key))
