-- The rule of the poster, over its own operations on the queue's words.
use Rattle.std.specs.Prelude.{ℕ, Bool, ◌+◌, ◌^◌, ◌<◌, ◌==◌, ◌++◌, List, [], ◌∷◌, length, slice_index, nat_lt, Option, Some, None, if◌then◌else◌}
use Rattle.bus_core.specs.declared.operation.BusEntry.{BusEntry}
use Rattle.bus_core.specs.Operation.{IsLoad, IsStore, loaded, stored}
use Rattle.counted_ring.specs.declared.place.WqPlace.{WqPlace}
use Rattle.counted_ring.specs.Place.{is_send, word_at, id_at, head_at, span, all_words, record_of, outstanding}
use Rattle.counted_ring.specs.Queue.{WqEvent, Wrote, Full, Rang}

-- what a post, or a ring, has done: nothing; these first words of an entry; all words of it; its id too; the record
pub data Stage : Type 0 where
  Ready : Stage
  Storing : (words : List ℕ) → Stage
  Naming : (words : List ℕ) → Stage
  Counting : (words : List ℕ) (id : ℕ) → Stage
  Ringing : Stage

-- how many requests it posted, the block index of the next one, the first word of the last one, and the tail that was loaded last, at first 0
pub record Poster : Type 0 where
  pub count : ℕ
  pub index : ℕ
  pub first : ℕ
  pub seen : ℕ
  pub stage : Stage

abbrev pub at_stage : Poster → Stage → Poster
at_stage p stage = record p { stage = stage }

-- the poster that has loaded this tail
abbrev pub at_tail : Poster → ℕ → Poster
at_tail p tail = record p { seen = tail }

abbrev pub has_room : WqPlace → Poster → BusEntry → Bool
has_room place p e = nat_lt (outstanding p.count (loaded e)) place.max_post

-- counts stay below 2 ^ 62
pub record MayBegin (place : WqPlace) (p : Poster) (e : BusEntry) : Type 0 where
  pub load : IsLoad place.tail e
  pub count : p.count < 2 ^ 62
  pub index : p.index < 2 ^ 62

-- A post loads the tail, and where that leaves room it stores the entry, its id and, in a send queue, its head word: how many requests were posted before.
abbrev pub MayPostAt : WqPlace → Poster → Stage → BusEntry → Type 0
MayPostAt place p Ready e = MayBegin place p e
MayPostAt place p (Storing words) e = IsStore (word_at place p.index (length words)) (stored e) e
MayPostAt place p (Naming words) e = IsStore (id_at place p.index) (stored e) e
MayPostAt place p (Counting words id) e = IsStore (head_at place p.index) p.count e
MayPostAt place p Ringing e = ⊥

abbrev pub MayPost : WqPlace → Poster → BusEntry → Type 0
MayPost place p e = MayPostAt place p p.stage e

-- the poster after this entry
abbrev pub posted_one : WqPlace → Poster → List ℕ → Poster
posted_one place p words = record { count = p.count + 1; index = p.index + span place (slice_index words 0); first = slice_index words 0; seen = p.seen; stage = Ready }

abbrev pub stage_with : WqPlace → List ℕ → Stage
stage_with place words = if length words == all_words place words then Naming words else Storing words

abbrev pub after_post_at : WqPlace → Poster → Stage → BusEntry → Poster
after_post_at place p Ready e = at_stage (at_tail p (loaded e)) (if has_room place p e then Storing [] else Ready)
after_post_at place p (Storing words) e = at_stage p (stage_with place (words ++ stored e ∷ []))
after_post_at place p (Naming words) e = if is_send place then at_stage p (Counting words (stored e)) else posted_one place p words
after_post_at place p (Counting words id) e = posted_one place p words
after_post_at place p Ringing e = p

abbrev pub after_post : WqPlace → Poster → BusEntry → Poster
after_post place p e = after_post_at place p p.stage e

abbrev pub post_says_at : WqPlace → Poster → Stage → BusEntry → Option WqEvent
post_says_at place p Ready e = if has_room place p e then None else Some (Full p.count (loaded e))
post_says_at place p (Storing words) e = None
post_says_at place p (Naming words) e = if is_send place then None else Some (Wrote words (stored e))
post_says_at place p (Counting words id) e = Some (Wrote words id)
post_says_at place p Ringing e = None

-- what an operation of a post says, if it is a marked one
abbrev pub post_says : WqPlace → Poster → BusEntry → Option WqEvent
post_says place p e = post_says_at place p p.stage e

abbrev pub IsRegisterStore : Option ℕ → ℕ → BusEntry → Type 0
IsRegisterStore None value e = ⊥
IsRegisterStore (Some r) value e = IsStore r value e

-- A ring stores the record, and then, in a send queue, the register.
abbrev pub MayRingAt : WqPlace → Poster → Stage → BusEntry → Type 0
MayRingAt place p Ready e = IsStore place.dbr (record_of p.index) e
MayRingAt place p (Storing words) e = ⊥
MayRingAt place p (Naming words) e = ⊥
MayRingAt place p (Counting words id) e = ⊥
MayRingAt place p Ringing e = IsRegisterStore place.reg p.first e

abbrev pub MayRing : WqPlace → Poster → BusEntry → Type 0
MayRing place p e = MayRingAt place p p.stage e

abbrev pub after_ring_at : WqPlace → Poster → Stage → Poster
after_ring_at place p Ready = at_stage p (if is_send place then Ringing else Ready)
after_ring_at place p (Storing words) = p
after_ring_at place p (Naming words) = p
after_ring_at place p (Counting words id) = p
after_ring_at place p Ringing = at_stage p Ready

abbrev pub after_ring : WqPlace → Poster → Poster
after_ring place p = after_ring_at place p p.stage

-- a ring is marked at its record
abbrev pub ring_says_at : Stage → Option WqEvent
ring_says_at Ready = Some Rang
ring_says_at (Storing words) = None
ring_says_at (Naming words) = None
ring_says_at (Counting words id) = None
ring_says_at Ringing = None

abbrev pub ring_says : Poster → Option WqEvent
ring_says p = ring_says_at p.stage
