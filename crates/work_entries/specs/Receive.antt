-- The grammar of receive entries: which words spell the segments of a receive.
use Rattle.std.specs.Prelude.{◌≡◌, ◌≢◌, ℕ, ◌+◌, ◌*◌, ◌/◌, ◌<◌, ◌≤◌, min, List, length, slice_index}
use Rattle.std.specs.List.{AllByRecursion}
use Rattle.prm_fields.specs.declared.layout.LayoutName.TheVariants.{DataUnit}
use Rattle.prm_fields.specs.Spelling.{Spells}
use Rattle.verbs_types.specs.declared.request.Sge.{Sge}
use Rattle.work_entries.specs.Unit.{unit}
use Rattle.work_entries.specs.Body.{HasSegments, segment_values}

-- the segment that ends a list of fewer segments than there are units
abbrev pub end_of_list : Sge
end_of_list = record { key = 0x100; addr = 0; len = 0 }

abbrev pub IsReal : Sge → Type 0
IsReal sge = sge ≢ end_of_list

-- how many segments an entry of `stride` words has room for; more than 16 words count as 16
abbrev pub room_of : ℕ → ℕ
room_of stride = min (stride / 2) 8

-- the words spell the segments: one a unit, and where a unit is left, the one that ends the list
pub record IsReceive (sges : List Sge) (room : ℕ) (words : List ℕ) : Type 0 where
  pub fits : length sges ≤ room
  pub real : AllByRecursion IsReal sges
  pub segments : HasSegments sges words 0
  pub ended : length sges < room → Spells DataUnit (segment_values end_of_list) (unit words (length sges))

-- how many units `count` segments and the end of the list take
abbrev pub used_units : ℕ → ℕ → ℕ
used_units count room = min (count + 1) room

-- no word from unit k on is other than 0
abbrev pub AreClearFrom : ℕ → List ℕ → Type 0
AreClearFrom k words = (i : ℕ) → 2 * k ≤ i → slice_index words i ≡ 0
