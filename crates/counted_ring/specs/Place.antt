-- Where a counted queue lies, and what its words say.
use Rattle.std.specs.Prelude.{ℕ, ◌≡◌, ◌+◌, ◌-◌, ◌*◌, ◌/◌, ◌%◌, ◌^◌, ◌<◌, ◌≤◌, ◌==◌, ◌&&◌, ◌||◌, nat_le, nat_lt, if◌then◌else◌, Bool, true, false, Option, Some, None, List, take, slice_index}
use Rattle.work_entries.specs.declared.units.SendWords.{SendWords}
use Rattle.work_entries.specs.Front.{units_in}
use Rattle.counted_ring.specs.declared.place.WqPlace.{WqPlace}

abbrev pub has_register : Option ℕ → Bool
has_register None = false
has_register (Some r) = true

-- a send queue has a register, and a receive queue has none
abbrev pub is_send : WqPlace → Bool
is_send place = has_register place.reg

-- the address of word k of the entry whose first block has this index; it goes on at the ring's start
abbrev pub word_at : WqPlace → ℕ → ℕ → ℕ
word_at place index k = place.ring + place.stride * ((index + k / place.stride) % place.blocks) + k % place.stride

abbrev pub id_at : WqPlace → ℕ → ℕ
id_at place index = place.ids + index % place.blocks

abbrev pub head_at : WqPlace → ℕ → ℕ
head_at place index = place.heads + index % place.blocks

-- how many blocks `units` units of 16 bytes take; no unit is read as one block, and more than 16 as four
abbrev pub unit_blocks : ℕ → ℕ
unit_blocks units = if nat_le units 4 then 1 else if nat_le units 8 then 2 else if nat_le units 12 then 3 else 4

-- how many blocks the entry of this first word takes, which is a control segment's in a send queue
abbrev pub span : WqPlace → ℕ → ℕ
span place first = if is_send place then unit_blocks (units_in first) else 1

-- how many words the entry has that begins with these
abbrev pub all_words : WqPlace → List ℕ → ℕ
all_words place words = span place (slice_index words 0) * place.stride

-- the most blocks of an entry
abbrev pub most : WqPlace → ℕ
most place = if is_send place then 4 else 1

-- the words of an entry, as its blocks have them
abbrev pub entry_words : WqPlace → SendWords → List ℕ
entry_words place entry = take (entry.blocks * place.stride) entry.words

-- no words are behind the blocks of an entry
abbrev pub IsClearBehind : WqPlace → SendWords → Type 0
IsClearBehind place entry = (k : ℕ) → entry.blocks * place.stride ≤ k → slice_index entry.words k ≡ 0

-- the record of a block index: its low 16 bits
abbrev pub record_of : ℕ → ℕ
record_of index = index % 2 ^ 16

-- how many blocks from this index on a record word shows
abbrev pub shown : ℕ → ℕ → ℕ
shown index word = (word + (2 ^ 64 - index)) % 2 ^ 64 % 2 ^ 16

-- how many requests were posted and not retired, by a tail word
abbrev pub outstanding : ℕ → ℕ → ℕ
outstanding head tail = (head + (2 ^ 64 - tail)) % 2 ^ 64

abbrev pub is_in : ℕ → ℕ → ℕ → Bool
is_in from count address = nat_le from address && nat_lt address (from + count)

abbrev pub is_register : Option ℕ → ℕ → Bool
is_register None address = false
is_register (Some r) address = address == r

-- whether the address is the queue's
abbrev pub touches : WqPlace → ℕ → Bool
touches place address =
    is_in place.ring (place.stride * place.blocks) address || is_in place.ids place.blocks address
    || (is_send place && is_in place.heads place.blocks address) || (address == place.tail) || (address == place.dbr) || is_register place.reg address

-- The blocks divide 2 ^ 16, so that a counter of 16 bits tells a block. There are blocks for as many entries as may be posted. The words lie in the order of the address map: ring, ids, head words, tail, record, register.
pub record IsPlace (place : WqPlace) : Type 0 where
  pub some_blocks : 0 < place.blocks
  pub few_blocks : place.blocks ≤ 2 ^ 15
  pub divides : 2 ^ 16 % place.blocks ≡ 0
  pub some_stride : 0 < place.stride
  pub few_words : most place * place.stride ≤ 32
  pub room : most place * place.max_post ≤ place.blocks
  pub ring_first : place.ring + place.stride * place.blocks ≤ place.ids
  pub heads_next : is_send place ≡ true → place.ids + place.blocks ≤ place.heads
  pub tail_next : (if is_send place then place.heads else place.ids) + place.blocks ≤ place.tail
  pub record_next : place.tail < place.dbr
  pub register_last : (r : ℕ) → place.reg ≡ Some r → place.dbr < r
