-- Where a shared receive queue lies, and what its words say.
use Rattle.std.specs.Prelude.{ℕ, ◌+◌, ◌-◌, ◌*◌, ◌/◌, ◌%◌, ◌^◌, ◌<◌, ◌≤◌, ◌==◌, ◌&&◌, ◌||◌, nat_le, nat_lt, Bool}
use Rattle.srq_list.specs.declared.place.SrqPlace.{SrqPlace}

-- the number of slots
abbrev pub size : SrqPlace → ℕ
size place = 2 ^ place.log

-- the most receives that are posted and not freed
abbrev pub max_post : SrqPlace → ℕ
max_post place = size place - 1

-- how many words a receive's entry has, behind the two of the next segment
abbrev pub entry_words : SrqPlace → ℕ
entry_words place = place.stride - 2

-- the slot that a number names
abbrev pub slot_of : SrqPlace → ℕ → ℕ
slot_of place number = number % size place

-- the address of the word of a slot that has the index of the next one
abbrev pub next_at : SrqPlace → ℕ → ℕ
next_at place slot = place.base + place.stride * slot_of place slot

-- the address of word k of the receive's entry of a slot
abbrev pub entry_at : SrqPlace → ℕ → ℕ → ℕ
entry_at place slot k = place.base + place.stride * slot_of place slot + 2 + k

abbrev pub id_at : SrqPlace → ℕ → ℕ
id_at place slot = place.ids + slot_of place slot

-- the first word of a next segment: the index of the next slot in its bytes 2 and 3
abbrev pub link_word : ℕ → ℕ
link_word slot = slot * 2 ^ 32

-- the slot that such a word names
abbrev pub next_of : SrqPlace → ℕ → ℕ
next_of place word = slot_of place (word / 2 ^ 32 % 2 ^ 16)

-- the record of `count` receives, where the queue's first count is `start`: the low 16 bits of the sum
abbrev pub record_of : ℕ → ℕ → ℕ
record_of start count = (start + count) % 2 ^ 16

-- how many receives a record word shows beyond those of an earlier record
abbrev pub shown : ℕ → ℕ → ℕ
shown earlier word = (word % 2 ^ 16 + (2 ^ 16 - earlier)) % 2 ^ 16

abbrev pub is_in : ℕ → ℕ → ℕ → Bool
is_in from count address = nat_le from address && nat_lt address (from + count)

-- whether the address is the queue's
abbrev pub touches : SrqPlace → ℕ → Bool
touches place address = is_in place.base (place.stride * size place) address || is_in place.ids (size place) address || (address == place.dbr) || (address == place.tail)

-- An index of 16 bits names a slot, and an entry has one to 14 words. The words lie in the order of the address map: slots, ids, record, tail word.
pub record IsPlace (place : SrqPlace) : Type 0 where
  pub few_slots : place.log ≤ 16
  pub some_words : 2 < place.stride
  pub few_words : place.stride ≤ 16
  pub slots_first : place.base + place.stride * size place ≤ place.ids
  pub ids_next : place.ids + size place ≤ place.dbr
  pub tail_last : place.dbr < place.tail
