-- What a counted queue stands for: a list of requests, with how many were rung, taken and retired.
use Rattle.std.specs.Prelude.{ℕ, zero, suc, ◌≡◌, ◌+◌, ◌-◌, ◌%◌, ◌^◌, ◌<◌, ◌≤◌, ◌++◌, List, [], ◌∷◌, length, slice_index, slice_get, Bool, true, false, Some}
use Rattle.bus_core.specs.Follow.{Follows}
use Rattle.counted_ring.specs.declared.place.WqPlace.{WqPlace}
use Rattle.counted_ring.specs.Place.{is_send, span, all_words}

-- a request with the index of its first block, the words of its entry and its id
pub record Request : Type 0 where
  pub index : ℕ
  pub words : List ℕ
  pub id : ℕ

-- all requests that were posted, the block index of the next one, and how many of them were rung, taken and retired
pub record Queue : Type 0 where
  pub requests : List Request
  pub next : ℕ
  pub rung : ℕ
  pub taken : ℕ
  pub retired : ℕ

abbrev pub empty_queue : ℕ → Queue
empty_queue start = record { requests = []; next = start; rung = 0; taken = 0; retired = 0 }

-- the index of the first block of request n, or of the one that comes next
abbrev pub index_in : List Request → ℕ → ℕ → ℕ
index_in [] next n = next
index_in (r ∷ rs) next zero = r.index
index_in (r ∷ rs) next (suc n) = index_in rs next n

abbrev pub index_of : Queue → ℕ → ℕ
index_of q n = index_in q.requests q.next n

-- what a marked operation says
pub data WqEvent : Type 0 where
  Wrote : (words : List ℕ) (id : ℕ) → WqEvent
  Full : (head tail : ℕ) → WqEvent
  Rang : WqEvent
  Named : (counter id : ℕ) → WqEvent
  Found : (counter id end : ℕ) → WqEvent
  Retired : (end : ℕ) → WqEvent
  Counted : (ready : ℕ) (passes : Bool) → WqEvent
  Took : (words : List ℕ) → WqEvent

-- a request that was taken and not retired, with this counter
pub record IsTaken (q : Queue) (counter n : ℕ) : Type 0 where
  pub retired : q.retired ≤ n
  pub taken : n < q.taken
  pub counter_is : counter ≡ index_of q n % 2 ^ 16

-- the request of a counter, with its id
pub record IsNamed (q : Queue) (counter id : ℕ) : Type 0 where
  pub number : ℕ
  pub counted : IsTaken q counter number
  pub request : Request
  pub found : slice_get q.requests number ≡ Some request
  pub id_is : id ≡ request.id

pub record IsFound (q : Queue) (counter id end : ℕ) : Type 0 where
  pub named : IsNamed q counter id
  pub end_is : end ≡ named.number + 1

-- there is room, and the entry has as many words as its first one says
pub record MayWrite (place : WqPlace) (q : Queue) (words : List ℕ) : Type 0 where
  pub room : length q.requests < q.retired + place.max_post
  pub whole : length words ≡ all_words place words

pub record MayTake (q : Queue) (words : List ℕ) : Type 0 where
  pub rung : q.taken < q.rung
  pub request : Request
  pub found : slice_get q.requests q.taken ≡ Some request
  pub words_are : words ≡ request.words

pub record MayRefuse (place : WqPlace) (q : Queue) (head tail : ℕ) : Type 0 where
  pub head_is : head ≡ length q.requests
  pub tail_is : tail ≡ q.retired
  pub full : length q.requests ≡ q.retired + place.max_post

pub record MayCount (q : Queue) (ready : ℕ) (passes : Bool) : Type 0 where
  pub ready_is : ready ≡ index_of q q.rung - index_of q q.taken
  pub one : passes ≡ true → q.taken < q.rung

-- the step relation: when an event may happen in a queue, and what it makes
abbrev pub MayHappen : WqPlace → Queue → WqEvent → Type 0
MayHappen place q (Wrote words id) = MayWrite place q words
MayHappen place q (Full head tail) = MayRefuse place q head tail
MayHappen place q Rang = Unit {0}
MayHappen place q (Named counter id) = IsNamed q counter id
MayHappen place q (Found counter id end) = IsFound q counter id end
MayHappen place q (Retired end) = (q.retired < end) × (end ≤ q.taken)
MayHappen place q (Counted ready passes) = MayCount q ready passes
MayHappen place q (Took words) = MayTake q words

abbrev pub after_count : Queue → Bool → Queue
after_count q true = record q { taken = q.taken + 1 }
after_count q false = q

abbrev pub after_event : WqPlace → Queue → WqEvent → Queue
after_event place q (Wrote words id) = record q { requests = q.requests ++ record { index = q.next; words = words; id = id } ∷ []; next = q.next + span place (slice_index words 0) }
after_event place q (Full head tail) = q
after_event place q Rang = record q { rung = length q.requests }
after_event place q (Named counter id) = q
after_event place q (Found counter id end) = q
after_event place q (Retired end) = record q { retired = end }
after_event place q (Counted ready passes) = after_count q passes
after_event place q (Took words) = record q { taken = q.taken + 1 }

abbrev pub IsLegal : WqPlace → Queue → List WqEvent → Type 0
IsLegal place q events = Follows (MayHappen place) (after_event place) q events

-- Of which requests pollers speak: a counter is that of a completion, so of a request that was taken and not retired, and those of receives are looked up in order.
abbrev pub MayAsk : WqPlace → Queue → WqEvent → Type 0
MayAsk place q (Wrote words id) = Unit {0}
MayAsk place q (Full head tail) = Unit {0}
MayAsk place q Rang = Unit {0}
MayAsk place q (Named counter id) = (n : ℕ) × IsTaken q counter n
MayAsk place q (Found counter id end) = is_send place ≡ false → (0 < end) × IsTaken q counter (end - 1)
MayAsk place q (Retired end) = Unit {0}
MayAsk place q (Counted ready passes) = Unit {0}
MayAsk place q (Took words) = Unit {0}

abbrev pub AsksInOrder : WqPlace → Queue → List WqEvent → Type 0
AsksInOrder place q events = Follows (MayAsk place) (after_event place) q events
