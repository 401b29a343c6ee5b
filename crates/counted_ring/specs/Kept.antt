-- What a legal history of a queue says of its requests.
use Rattle.std.specs.Prelude.{ℕ, ◌≡◌, ◌+◌, ◌-◌, ◌%◌, ◌^◌, ◌<◌, ◌≤◌, ◌++◌, List, ◌∷◌, length, take, sum_by, slice_index, slice_get, filter, filter_map, fold, Bool, true, false, Option, Some, None}
use Rattle.counted_ring.specs.declared.place.WqPlace.{WqPlace}
use Rattle.counted_ring.specs.Place.{span}
use Rattle.counted_ring.specs.Queue.{WqEvent, Wrote, Full, Found, Retired, Counted, Took, IsTaken, empty_queue, after_event, IsLegal}

pub record Written : Type 0 where
  pub words : List ℕ
  pub id : ℕ

abbrev pub writes : WqEvent → Option Written
writes (Wrote words id) = Some (record { words = words; id = id })
writes _ = None

-- the requests that were written, the oldest first
abbrev pub written : List WqEvent → List Written
written events = filter_map writes events

abbrev pub is_take : WqEvent → Bool
is_take (Took words) = true
is_take (Counted ready passes) = passes
is_take _ = false

-- how many were taken, or passed without a read
abbrev pub takes : List WqEvent → ℕ
takes events = length (filter is_take events)

abbrev pub tail_after : ℕ → WqEvent → ℕ
tail_after tail (Retired end) = end
tail_after tail _ = tail

-- how many were retired
abbrev pub retirements : List WqEvent → ℕ
retirements events = fold tail_after 0 events

-- the index of the first block of the request with n before it
abbrev pub first_block : WqPlace → ℕ → List WqEvent → ℕ → ℕ
first_block place index past n = index + sum_by (λ (w : Written). span place (slice_index w.words 0)) (take n (written past))

-- the words of the request that is taken next
pub record TakesNext (past : List WqEvent) (words : List ℕ) : Type 0 where
  pub id : ℕ
  pub next : slice_get (written past) (takes past) ≡ Some (record { words = words; id = id })

-- the counter and the id of the last request below an end, which was taken and is not retired
pub record FindsRequest (place : WqPlace) (index : ℕ) (past : List WqEvent) (counter id end : ℕ) : Type 0 where
  pub live : retirements past < end
  pub taken : end ≤ takes past
  pub words : List ℕ
  pub last : slice_get (written past) (end - 1) ≡ Some (record { words = words; id = id })
  pub counter_is : counter ≡ first_block place index past (end - 1) % 2 ^ 16

-- as many requests as may be were written and not retired
pub record IsFull (limit : ℕ) (past : List WqEvent) (head tail : ℕ) : Type 0 where
  pub head_is : head ≡ length (written past)
  pub tail_is : tail ≡ retirements past
  pub full : head ≡ tail + limit

-- In every legal history of a queue whose first block has this index, requests are taken as they were written and in this order, what is found is the request of that counter, which was taken and is not retired, full is told only of a full queue, and requests are retired in order, after they were taken.
pub record KeepsRequests (place : WqPlace) (index : ℕ) : Type 0 where
  pub took : (before after : List WqEvent) (words : List ℕ) → IsLegal place (empty_queue index) (before ++ Took words ∷ after) → TakesNext before words
  pub found : (before after : List WqEvent) (counter id end : ℕ) → IsLegal place (empty_queue index) (before ++ Found counter id end ∷ after) → FindsRequest place index before counter id end
  pub full : (before after : List WqEvent) (head tail : ℕ) → IsLegal place (empty_queue index) (before ++ Full head tail ∷ after) → IsFull place.max_post before head tail
  pub retired : (before after : List WqEvent) (end : ℕ) → IsLegal place (empty_queue index) (before ++ Retired end ∷ after) → (retirements before < end) × (end ≤ takes before)

-- After every legal history one counter is that of at most one request that was taken and is not retired. So no wrap of the counter confuses two.
abbrev pub NamesOne : WqPlace → ℕ → Type 0
NamesOne place index = (events : List WqEvent) (counter n k : ℕ) → IsLegal place (empty_queue index) events
    → IsTaken (fold (after_event place) (empty_queue index) events) counter n → IsTaken (fold (after_event place) (empty_queue index) events) counter k → n ≡ k
