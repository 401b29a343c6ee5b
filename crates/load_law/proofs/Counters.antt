-- No two requests of a queue that were taken and are not retired have one counter.
use Rattle.std.proofs.Common.{◌≡◌, ◌≢◌, ℕ, ◌%◌, ◌^◌, ◌<◌, ◌≤◌, inl, inr, sym, ◌∙◌, arith, length}
use Rattle.std.specs.Prelude.{slice_index}
use Rattle.std.proofs.lemmas.Bool.{cases_lt}
use Rattle.bus_core.proofs.Remainders.{remainders}
use Rattle.counted_ring.specs.declared.place.WqPlace.{WqPlace}
use Rattle.counted_ring.specs.Place.{IsPlace}
use Rattle.counted_ring.specs.Queue.{Queue, IsTaken, index_of}
use Rattle.counted_ring.proofs.Requests.{request_of}
use Rattle.counted_ring.proofs.Shape.{Order, span_some, rises, rises_by, last_index, window}

module _ (place : WqPlace) (q : Queue) (s : Order place q) (ok : IsPlace place) where
  -- live requests have indices of one window of 2 ^ 16
  counters_rise : (n k : ℕ) → q.retired ≤ n → n < k → k < q.taken → index_of q n % 2 ^ 16 ≢ index_of q k % 2 ^ 16
  counters_rise n k live low high =
      let inside : k < length q.requests = omega (arith, high, s.taken, s.rung) in
      let up = rises_by place q s n k low (omega (arith, inside)) in
      let first = rises place q s q.retired n live (omega (arith, low, inside)) in
      let last = rises place q s k (length q.requests) (omega (arith, inside)) (omega arith) in
      remainders (index_of q n) (index_of q k) (2 ^ 16) (omega (arith, up, span_some place (slice_index (request_of q n).words 0)))
      (omega (arith, first, last, last_index place q s, window place q s ok, ok.few_blocks))

  pub one_counter : (counter n k : ℕ) → IsTaken q counter n → IsTaken q counter k → n ≡ k
  one_counter counter n k h g = elim (cases_lt n k) [
    | inl below ↦ absurd (counters_rise n k h.retired below g.taken (sym h.counter_is ∙ g.counter_is))
    | inr above ↦ elim (cases_lt k n) [
      | inl below ↦ absurd (counters_rise k n g.retired below h.taken (sym g.counter_is ∙ h.counter_is))
      | inr same ↦ omega (arith, above, same)
    ]
  ]
