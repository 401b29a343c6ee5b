-- The rule of the device, over its own operations on the queue's words.
use Rattle.std.specs.Prelude.{ℕ, ◌≡◌, ◌+◌, ◌-◌, ◌*◌, ◌/◌, ◌<◌, ◌==◌, ◌++◌, List, [], ◌∷◌, length, slice_index, nat_lt, Bool, true, false, Option, Some, None, if◌then◌else◌}
use Rattle.bus_core.specs.declared.operation.BusEntry.{BusEntry}
use Rattle.bus_core.specs.Operation.{IsLoad, loaded}
use Rattle.counted_ring.specs.declared.place.WqPlace.{WqPlace}
use Rattle.counted_ring.specs.Place.{is_send, word_at, span, shown}
use Rattle.counted_ring.specs.Queue.{WqEvent, Took}

-- the block index that is read next, how many blocks from there on the record showed, the register that was seen last, and the words of the entry that were read so far
pub record WqReader : Type 0 where
  pub next : ℕ
  pub ready : ℕ
  pub register : ℕ
  pub words : List ℕ

-- how many blocks of an entry with this first word the record showed
abbrev pub reach : WqPlace → ℕ → ℕ → ℕ
reach place ready first = if nat_lt ready (span place first) then ready else span place first

abbrev pub IsLook : Option ℕ → BusEntry → Type 0
IsLook None e = ⊥
IsLook (Some r) e = IsLoad r e

pub record MayLook (place : WqPlace) (d : WqReader) (e : BusEntry) : Type 0 where
  pub between : d.words ≡ []
  pub load : IsLook place.reg e

-- after the record a receive may be passed that it showed
pub record MayRecord (place : WqPlace) (d : WqReader) (passes : Bool) (e : BusEntry) : Type 0 where
  pub between : d.words ≡ []
  pub load : IsLoad place.dbr e
  pub receive : passes ≡ true → is_send place ≡ false
  pub shows : passes ≡ true → 0 < shown d.next (loaded e)

-- no word of a block is read that the record did not show
pub record MayRead (place : WqPlace) (d : WqReader) (e : BusEntry) : Type 0 where
  pub ready : length d.words / place.stride < d.ready
  pub load : IsLoad (word_at place d.next (length d.words)) e

abbrev pub after_look : WqReader → BusEntry → WqReader
after_look d e = record d { register = loaded e }

abbrev pub passed : WqReader → WqReader
passed d = record d { next = d.next + 1; ready = d.ready - 1 }

abbrev pub pass_if : Bool → WqReader → WqReader
pass_if true d = passed d
pass_if false d = d

abbrev pub after_record : WqReader → Bool → BusEntry → WqReader
after_record d passes e = pass_if passes (record d { ready = shown d.next (loaded e) })

abbrev pub is_whole : WqPlace → ℕ → List ℕ → Bool
is_whole place ready words = length words == reach place ready (slice_index words 0) * place.stride

-- the reader with one word more of its entry
abbrev pub reader_with : WqPlace → WqReader → List ℕ → WqReader
reader_with place d words =
    if is_whole place d.ready words then record { next = d.next + reach place d.ready (slice_index words 0); ready = d.ready - reach place d.ready (slice_index words 0); register = d.register; words = [] }
    else record d { words = words }

abbrev pub after_read : WqPlace → WqReader → BusEntry → WqReader
after_read place d e = reader_with place d (d.words ++ loaded e ∷ [])

abbrev pub words_say : WqPlace → ℕ → List ℕ → Option WqEvent
words_say place ready words = if is_whole place ready words then Some (Took words) else None

abbrev pub read_says : WqPlace → WqReader → BusEntry → Option WqEvent
read_says place d e = words_say place d.ready (d.words ++ loaded e ∷ [])
