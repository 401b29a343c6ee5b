-- What a legal history of a shared receive queue says of its receives and of its slots.
use Rattle.std.specs.Prelude.{ℕ, ◌≡◌, ◌≢◌, ◌+◌, ◌<◌, ◌≤◌, ◌++◌, ◌⊎◌, List, [], ◌∷◌, length, take, filter, fold, slice_get, Bool, true, false, Some}
use Rattle.std.specs.List.{Contains}
use Rattle.srq_list.specs.declared.place.SrqPlace.{SrqPlace}
use Rattle.srq_list.specs.Place.{size, max_post}
use Rattle.srq_list.specs.Queue.{Receive, SharedQueue, SrqEvent, Began, Full, Wrote, Rang, Found, Freed, Showed, NoneThere, Took, empty_queue, slot_at, free_slots, freed, IsHeld, after_event, IsLegal}

-- the receives that were rung, the oldest first, and those that were written since
pub record Posts : Type 0 where
  pub rung : List Receive
  pub written : List Receive

-- a post that begins, or a ring, drops those that it does not stand behind
abbrev pub after_posts : Posts → SrqEvent → Posts
after_posts p (Began pending) = record { rung = p.rung; written = take pending p.written }
after_posts p (Full pending slot) = record { rung = p.rung; written = take pending p.written }
after_posts p (Wrote receive) = record { rung = p.rung; written = p.written ++ receive ∷ [] }
after_posts p (Rang pending) = record { rung = p.rung ++ take pending p.written; written = [] }
after_posts p _ = p

abbrev pub posts : List SrqEvent → Posts
posts events = fold after_posts (record { rung = []; written = [] }) events

-- the receives that were posted, in order
abbrev pub posted : List SrqEvent → List Receive
posted events = (posts events).rung

abbrev pub is_take : SrqEvent → Bool
is_take (Took slot words) = true
is_take _ = false

-- how many were taken
abbrev pub takes : List SrqEvent → ℕ
takes events = length (filter is_take events)

abbrev pub is_free : SrqEvent → Bool
is_free (Freed slot) = true
is_free _ = false

-- how many were freed
abbrev pub frees : List SrqEvent → ℕ
frees events = length (filter is_free events)

-- the receive that is taken next lies at this slot and has these words
pub record TakesNext (past : List SrqEvent) (slot : ℕ) (words : List ℕ) : Type 0 where
  pub id : ℕ
  pub next : slice_get (posted past) (takes past) ≡ Some (record { slot = slot; words = words; id = id })

-- the receive that was taken at this slot, which was not freed since
pub record WasTaken (past : List SrqEvent) (slot : ℕ) : Type 0 where
  pub earlier : List SrqEvent
  pub later : List SrqEvent
  pub words : List ℕ
  pub past_is : past ≡ earlier ++ Took slot words ∷ later
  pub kept : Contains later (Freed slot) → ⊥

-- it was posted with this id
pub record WasPosted (past : List SrqEvent) (slot id : ℕ) : Type 0 where
  pub was_taken : WasTaken past slot
  pub receive : slice_get (posted past) (takes was_taken.earlier) ≡ Some (record { slot = slot; words = was_taken.words; id = id })

-- In every legal history of a queue, receives are taken as they were posted, with their words and at their slots, and in this order; none there is told only where all that were posted are taken, and a receive that is shown was posted; full is told only where so many of those that were written are not freed as the queue holds; the id that is found is that of the receive that was taken at the slot; what is freed was taken and not freed since; and between two takes of one slot it was freed, so that no slot is handed out twice.
pub record KeepsReceives (place : SrqPlace) : Type 0 where
  pub took : (before after : List SrqEvent) (slot : ℕ) (words : List ℕ) → IsLegal place (empty_queue place) (before ++ Took slot words ∷ after) → TakesNext before slot words
  pub none : (before after : List SrqEvent) (taken : ℕ) → IsLegal place (empty_queue place) (before ++ NoneThere taken ∷ after) → (taken ≡ takes before) × (length (posted before) ≡ takes before)
  pub showed : (before after : List SrqEvent) (count : ℕ) → IsLegal place (empty_queue place) (before ++ Showed count ∷ after) → (count ≡ length (posted before)) × (takes before < count)
  pub full : (before after : List SrqEvent) (pending slot : ℕ) → IsLegal place (empty_queue place) (before ++ Full pending slot ∷ after) → length (posted before) + pending ≡ frees before + max_post place
  pub found : (before after : List SrqEvent) (slot id : ℕ) → IsLegal place (empty_queue place) (before ++ Found slot id ∷ after) → WasPosted before slot id
  pub freed : (before after : List SrqEvent) (slot : ℕ) → IsLegal place (empty_queue place) (before ++ Freed slot ∷ after) → WasTaken before slot
  pub once : (before between after : List SrqEvent) (slot : ℕ) (words words' : List ℕ) → IsLegal place (empty_queue place) (before ++ Took slot words ∷ (between ++ Took slot words' ∷ after)) → Contains between (Freed slot)

-- a slot of the chain whose receive was not taken: it is free, or a receive was written there
pub record IsAhead (q : SharedQueue) (slot : ℕ) : Type 0 where
  pub number : ℕ
  pub taken : q.taken ≤ number
  pub inside : number < length q.chain
  pub slot_is : slot_at q number ≡ slot

-- Each slot is free, or a receive lies there that was written and not taken, or one that was taken and whose slot was not freed since; it is one of them alone, and is so once.
pub record SharesSlots (place : SrqPlace) (q : SharedQueue) : Type 0 where
  pub each : (slot : ℕ) → slot < size place → IsAhead q slot ⊎ IsHeld q slot
  pub ahead_once : (n k : ℕ) → q.taken ≤ n → n < k → k < length q.chain → slot_at q n ≢ slot_at q k
  pub not_both : (slot : ℕ) → IsAhead q slot → IsHeld q slot → ⊥
  pub held_once : (slot : ℕ) (a b : IsHeld q slot) → a.number ≡ b.number
  pub within : (slot : ℕ) → (IsAhead q slot ⊎ IsHeld q slot) → slot < size place
  -- where the free ones are those behind the receives
  pub free : length q.receives + length (free_slots q) ≡ freed place q + size place
  pub some_free : length q.receives < length q.chain

abbrev pub KeepsSlots : SrqPlace → Type 0
KeepsSlots place = (events : List SrqEvent) → IsLegal place (empty_queue place) events → SharesSlots place (fold after_event (empty_queue place) events)
