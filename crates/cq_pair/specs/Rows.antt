-- What the steps of a queue are to a history of verbs: what a poll, a publication and an acknowledgement make of the completions from an index on.
use Rattle.std.specs.Prelude.{ℕ, ◌≡◌, ◌+◌, ◌-◌, ◌≤◌, ◌++◌, List, [], ◌∷◌, length, fold}
use Rattle.cqe_format.specs.declared.completion.Cqe.{Cqe}
use Rattle.cq_pair.specs.Queue.{PlainQueue, QueueEvent, Published, Took, Empty, Acked, MayHappen, after_event, IsLegal, empty_queue, produced, since}

-- Let a history's unpolled completions be those from an index on. A publication appends to them, a take is of the oldest, a look that finds nothing says that there is none, an acknowledgement up to that index leaves them, and the index is as many below the next one as there are completions.
pub record ReadsAsHistory (size : ℕ) (q : PlainQueue) : Type 0 where
  pub published : (index from : ℕ) (completion : Cqe) → MayHappen size q (Published index completion) → from ≤ produced q → since (after_event q (Published index completion)) from ≡ since q from ++ completion ∷ []
  pub took : (index : ℕ) (completion : Cqe) → MayHappen size q (Took index completion) → since q index ≡ completion ∷ since q (index + 1)
  pub empty : (index : ℕ) → MayHappen size q (Empty index) → since q index ≡ []
  pub acked : (ci from : ℕ) → MayHappen size q (Acked ci) → ci ≤ from → since (after_event q (Acked ci)) from ≡ since q from
  pub counted : (from : ℕ) → q.acked ≤ from → from ≤ produced q → from ≡ produced q - length (since q from)

-- the indices of a queue stand in order, within its size
pub record IsOrdered (size : ℕ) (q : PlainQueue) : Type 0 where
  pub polled_low : q.acked ≤ q.polled
  pub polled_high : q.polled ≤ produced q
  pub bound : produced q ≤ q.acked + size

-- they do after every legal history
abbrev pub StaysOrdered : ℕ → ℕ → Type 0
StaysOrdered size index = (events : List QueueEvent) → IsLegal size (empty_queue index) events → IsOrdered size (fold after_event (empty_queue index) events)
