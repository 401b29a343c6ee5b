-- What a shared receive queue stands for: a list of receives, and the order in which its slots are used.
use Rattle.std.specs.Prelude.{ℕ, ◌≡◌, ◌≢◌, ◌+◌, ◌-◌, ◌<◌, ◌++◌, ◌⊎◌, List, [], ◌∷◌, length, take, drop, slice_index, slice_get, Some}
use Rattle.std.specs.List.{range_with_len}
use Rattle.bus_core.specs.Follow.{Follows}
use Rattle.srq_list.specs.declared.place.SrqPlace.{SrqPlace}
use Rattle.srq_list.specs.Place.{size, entry_words}

-- a receive with the slot where it lies, the words of its entry and its id
pub record Receive : Type 0 where
  pub slot : ℕ
  pub words : List ℕ
  pub id : ℕ

pub record SharedQueue : Type 0 where
  -- the slots in the order in which they are used: first each of them, from 0 on, and then those that were freed, as they were
  pub chain : List ℕ
  -- the receives that were written, each at its slot of the chain; the slots behind theirs are free
  pub receives : List Receive
  -- how many of them were rung, and how many taken
  pub rung : ℕ
  pub taken : ℕ

abbrev pub empty_queue : SrqPlace → SharedQueue
empty_queue place = record { chain = range_with_len 0 (size place); receives = []; rung = 0; taken = 0 }

-- the slot of the receive with n before it, or the one that such a receive will have
abbrev pub slot_at : SharedQueue → ℕ → ℕ
slot_at q n = slice_index q.chain n

-- the free slots, in the order in which they are used
abbrev pub free_slots : SharedQueue → List ℕ
free_slots q = drop (length q.receives) q.chain

-- how many slots were freed
abbrev pub freed : SrqPlace → SharedQueue → ℕ
freed place q = length q.chain - size place

-- what a marked operation says
pub data SrqEvent : Type 0 where
  Began : (pending : ℕ) → SrqEvent
  Full : (pending slot : ℕ) → SrqEvent
  Wrote : (receive : Receive) → SrqEvent
  Rang : (pending : ℕ) → SrqEvent
  Found : (slot id : ℕ) → SrqEvent
  Freed : (slot : ℕ) → SrqEvent
  Showed : (posted : ℕ) → SrqEvent
  NoneThere : (taken : ℕ) → SrqEvent
  Took : (slot : ℕ) (words : List ℕ) → SrqEvent

-- the slot of the receive with n before it does not stand in the chain behind it: it was not freed since
abbrev pub IsKept : SharedQueue → ℕ → Type 0
IsKept q n = (k : ℕ) → n < k → k < length q.chain → slot_at q k ≢ slot_at q n

-- a slot whose receive was taken, and which was not freed since
pub record IsHeld (q : SharedQueue) (slot : ℕ) : Type 0 where
  -- how many receives stand before that one
  pub number : ℕ
  pub taken : number < q.taken
  pub slot_is : slot_at q number ≡ slot
  pub kept : IsKept q number

-- of the receives that were written and not rung, all or none
abbrev pub IsPending : SharedQueue → ℕ → Type 0
IsPending q pending = (q.rung + pending ≡ length q.receives) ⊎ (pending ≡ 0)

-- there is a free slot beside the next one
pub record MayBegin (q : SharedQueue) (pending : ℕ) : Type 0 where
  pub pending_is : IsPending q pending
  pub room : q.rung + pending + 1 < length q.chain

-- the next slot is the only free one
pub record MayRefuse (q : SharedQueue) (pending slot : ℕ) : Type 0 where
  pub pending_is : IsPending q pending
  pub last : q.rung + pending + 1 ≡ length q.chain
  pub slot_is : slot ≡ slot_at q (q.rung + pending)

pub record MayWrite (place : SrqPlace) (q : SharedQueue) (r : Receive) : Type 0 where
  pub room : length q.receives + 1 < length q.chain
  pub slot_is : r.slot ≡ slot_at q (length q.receives)
  pub whole : length r.words ≡ entry_words place

-- the receive of a slot that is held, with its id
pub record MayFind (q : SharedQueue) (slot id : ℕ) : Type 0 where
  pub held : IsHeld q slot
  pub receive : Receive
  pub found : slice_get q.receives held.number ≡ Some receive
  pub id_is : id ≡ receive.id

pub record MayTake (q : SharedQueue) (slot : ℕ) (words : List ℕ) : Type 0 where
  pub rung : q.taken < q.rung
  pub receive : Receive
  pub found : slice_get q.receives q.taken ≡ Some receive
  pub slot_is : slot ≡ receive.slot
  pub words_are : words ≡ receive.words

-- the step relation: when an event may happen in a queue, and what it makes
abbrev pub MayHappen : SrqPlace → SharedQueue → SrqEvent → Type 0
MayHappen place q (Began pending) = MayBegin q pending
MayHappen place q (Full pending slot) = MayRefuse q pending slot
MayHappen place q (Wrote receive) = MayWrite place q receive
MayHappen place q (Rang pending) = IsPending q pending
MayHappen place q (Found slot id) = MayFind q slot id
MayHappen place q (Freed slot) = IsHeld q slot
MayHappen place q (Showed posted) = (q.taken < q.rung) × (posted ≡ q.rung)
MayHappen place q (NoneThere taken) = (q.taken ≡ q.rung) × (taken ≡ q.taken)
MayHappen place q (Took slot words) = MayTake q slot words

-- of the receives that were written and not rung, these first ones are left
abbrev pub cut : SharedQueue → ℕ → SharedQueue
cut q pending = record q { receives = take (q.rung + pending) q.receives }

abbrev pub after_event : SharedQueue → SrqEvent → SharedQueue
after_event q (Began pending) = cut q pending
after_event q (Full pending slot) = cut q pending
after_event q (Wrote receive) = record q { receives = q.receives ++ receive ∷ [] }
after_event q (Rang pending) = record q { receives = take (q.rung + pending) q.receives; rung = q.rung + pending }
after_event q (Found slot id) = q
after_event q (Freed slot) = record q { chain = q.chain ++ slot ∷ [] }
after_event q (Showed posted) = q
after_event q (NoneThere taken) = q
after_event q (Took slot words) = record q { taken = q.taken + 1 }

abbrev pub IsLegal : SrqPlace → SharedQueue → List SrqEvent → Type 0
IsLegal place q events = Follows (MayHappen place) after_event q events

-- Of which slots freers speak: of those whose receive was taken, and which were not freed since. A completion, or a cleaning, gives each such slot once.
abbrev pub MayAsk : SharedQueue → SrqEvent → Type 0
MayAsk q (Found slot id) = IsHeld q slot
MayAsk q (Freed slot) = IsHeld q slot
MayAsk q _ = Unit {0}

abbrev pub AsksOfHeld : SharedQueue → List SrqEvent → Type 0
AsksOfHeld q events = Follows MayAsk after_event q events
