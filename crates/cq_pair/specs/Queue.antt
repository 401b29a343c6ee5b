-- What a completion queue stands for: a list of completions, of which the front was polled.
use Rattle.std.specs.Prelude.{ℕ, ◌≡◌, ◌+◌, ◌-◌, ◌<◌, ◌≤◌, ◌++◌, List, [], ◌∷◌, length, drop, slice_get, filter, Bool, true, false, Some}
use Rattle.std.specs.List.{Contains}
use Rattle.bus_core.specs.Follow.{Follows}
use Rattle.cqe_format.specs.declared.completion.Cqe.{Cqe}

pub record PlainQueue : Type 0 where
  -- the consumer index last stored
  pub acked : ℕ
  -- the index of the completion that is polled next
  pub polled : ℕ
  -- the completions that were not acknowledged, the oldest first, which has the acknowledged index
  pub completions : List Cqe
  pub overrun : Bool

abbrev pub empty_queue : ℕ → PlainQueue
empty_queue index = record { acked = index; polled = index; completions = []; overrun = false }

-- the index of the completion that is published next
abbrev pub produced : PlainQueue → ℕ
produced q = q.acked + length q.completions

-- the completions from an index on, the oldest first
abbrev pub since : PlainQueue → ℕ → List Cqe
since q index = drop (index - q.acked) q.completions

-- the completions that no poll took
abbrev pub unpolled : PlainQueue → List Cqe
unpolled q = since q q.polled

-- what a marked operation says
pub data QueueEvent : Type 0 where
  Published : (index : ℕ) (completion : Cqe) → QueueEvent
  Overrun : (index ci : ℕ) → QueueEvent
  Lost : QueueEvent
  Took : (index : ℕ) (completion : Cqe) → QueueEvent
  Empty : (index : ℕ) → QueueEvent
  Acked : (ci : ℕ) → QueueEvent

pub record MayPublish (size : ℕ) (q : PlainQueue) (index : ℕ) : Type 0 where
  pub index_is : index ≡ produced q
  pub runs : q.overrun ≡ false
  pub room : produced q - q.acked < size

pub record MayOverrun (size : ℕ) (q : PlainQueue) (index ci : ℕ) : Type 0 where
  pub index_is : index ≡ produced q
  pub runs : q.overrun ≡ false
  pub ci_is : ci ≡ q.acked
  pub full : produced q - q.acked ≡ size

-- Polls take completions in order. One that was polled and not acknowledged is polled again, with those behind it, where the poll that took it was dropped.
pub record MayTake (q : PlainQueue) (index : ℕ) (completion : Cqe) : Type 0 where
  pub acked : q.acked ≤ index
  pub polled : index ≤ q.polled
  pub found : slice_get q.completions (index - q.acked) ≡ Some completion

pub record MayFindNone (q : PlainQueue) (index : ℕ) : Type 0 where
  pub index_is : index ≡ q.polled
  pub none : unpolled q ≡ []

pub record MayAcknowledge (q : PlainQueue) (ci : ℕ) : Type 0 where
  pub acked : q.acked ≤ ci
  pub polled : ci ≤ q.polled

-- the step relation: when an event may happen in a queue of this size, and what it makes
abbrev pub MayHappen : ℕ → PlainQueue → QueueEvent → Type 0
MayHappen size q (Published index completion) = MayPublish size q index
MayHappen size q (Overrun index ci) = MayOverrun size q index ci
MayHappen size q Lost = q.overrun ≡ true
MayHappen size q (Took index completion) = MayTake q index completion
MayHappen size q (Empty index) = MayFindNone q index
MayHappen size q (Acked ci) = MayAcknowledge q ci

abbrev pub after_event : PlainQueue → QueueEvent → PlainQueue
after_event q (Published index completion) = record q { completions = q.completions ++ completion ∷ [] }
after_event q (Overrun index ci) = record q { overrun = true }
after_event q Lost = q
after_event q (Took index completion) = record q { polled = index + 1 }
after_event q (Empty index) = q
after_event q (Acked ci) = record q { acked = ci; completions = drop (ci - q.acked) q.completions }

abbrev pub IsLegal : ℕ → PlainQueue → List QueueEvent → Type 0
IsLegal size q events = Follows (MayHappen size) after_event q events

abbrev pub is_publication : QueueEvent → Bool
is_publication (Published index completion) = true
is_publication _ = false

abbrev pub publications : List QueueEvent → ℕ
publications events = length (filter is_publication events)

-- In every legal history of a queue from this index on, publications have consecutive indices, and what is taken was published before, at its index. So no wrap makes the host take another completion than the one that was published.
pub record KeepsCompletions (size start : ℕ) : Type 0 where
  pub in_order : (before after : List QueueEvent) (index : ℕ) (completion : Cqe) → IsLegal size (empty_queue start) (before ++ Published index completion ∷ after) → index ≡ start + publications before
  pub taken : (before after : List QueueEvent) (index : ℕ) (completion : Cqe) → IsLegal size (empty_queue start) (before ++ Took index completion ∷ after) → Contains before (Published index completion)
