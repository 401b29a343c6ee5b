-- What each event leaves of the order of a list, and that no two live requests have one counter.
use Rattle.std.proofs.Common.{◌≡◌, ◌≢◌, ℕ, ◌+◌, ◌%◌, ◌^◌, ◌<◌, ◌≤◌, inl, inr, refl, ap, sym, ◌∙◌, arith, true, false, List, [], ◌∷◌, length, fold}
use Rattle.std.specs.Prelude.{slice_index}
use Rattle.std.proofs.lemmas.Bool.{cases_lt}
use Rattle.bus_core.proofs.Remainders.{remainders}
use Rattle.counted_ring.specs.declared.place.WqPlace.{WqPlace}
use Rattle.counted_ring.specs.Place.{IsPlace, span}
use Rattle.counted_ring.specs.Queue.{Request, Queue, WqEvent, Wrote, Full, Rang, Named, Found, Retired, Counted, Took, IsTaken, index_of, empty_queue, MayHappen, after_event, IsLegal}
use Rattle.counted_ring.proofs.Requests.{request_of, span_of, more, count_more, request_before, request_last, index_more, index_next}
use Rattle.counted_ring.proofs.Shape.{Order, span_some, rises, rises_by, last_index, window}

module _ (place : WqPlace) (q : Queue) (s : Order place q) where
  -- one request more
  module _ (words : List ℕ) (id : ℕ) where
    spaced_more : (n : ℕ) → n < length (more place q words id).requests → index_of (more place q words id) (n + 1) ≡ index_of (more place q words id) n + span_of place (more place q words id) n
    spaced_more n inside = elim (cases_lt n (length q.requests)) [
      | inl before ↦
          let same = ap (λ (x : Request). span place (slice_index x.words 0)) (request_before place q words id n before) in
          omega (arith, index_more place q words id (n + 1) (omega (arith, before)), index_more place q words id n (omega (arith, before)), same, s.spaced n before)
      | inr past ↦
          let last : n ≡ length q.requests = omega (arith, past, inside, count_more place q words id) in
          let here : index_of q n ≡ q.next = ap (index_of q) last ∙ last_index place q s in
          let span_is = ap (λ (x : Request). span place (slice_index x.words 0)) (request_last place q words id n last) in
          omega (arith, index_next place q words id (n + 1) (omega (arith, past)), index_more place q words id n (omega (arith, last)), here, span_is)
    ]

    pub order_more : length q.requests < q.retired + place.max_post → Order place (more place q words id)
    order_more room = record { retired = s.retired; taken = s.taken; rung = omega (arith, s.rung, count_more place q words id); bound = omega (arith, count_more place q words id, room); spaced = spaced_more }

  pub order_rung : Order place (after_event place q Rang)
  order_rung = record { retired = s.retired; taken = omega (arith, s.taken, s.rung); rung = omega arith; bound = s.bound; spaced = s.spaced }

  pub order_taken : q.taken < q.rung → Order place (record { requests = q.requests; next = q.next; rung = q.rung; taken = q.taken + 1; retired = q.retired })
  order_taken rung = record { retired = omega (arith, s.retired); taken = omega (arith, rung); rung = s.rung; bound = s.bound; spaced = s.spaced }

  pub order_retired : (end : ℕ) → q.retired < end → end ≤ q.taken → Order place (after_event place q (Retired end))
  order_retired end low high = record { retired = high; taken = s.taken; rung = s.rung; bound = omega (arith, s.bound, low); spaced = s.spaced }

  pub order_step : (e : WqEvent) → MayHappen place q e → Order place (after_event place q e)
  order_step (Wrote words id) may = order_more words id may.room
  order_step (Full head tail) may = s
  order_step Rang may = order_rung
  order_step (Named counter id) may = s
  order_step (Found counter id end) may = s
  order_step (Retired end) may = order_retired end may.0 may.1
  order_step (Counted ready true) may = order_taken (may.one refl)
  order_step (Counted ready false) may = s
  order_step (Took words) may = order_taken may.rung

  -- the first request stays where it is
  pub first_kept : (e : WqEvent) → index_of (after_event place q e) 0 ≡ index_of q 0
  first_kept (Wrote words id) = index_more place q words id 0 (omega arith)
  first_kept (Full head tail) = refl
  first_kept Rang = refl
  first_kept (Named counter id) = refl
  first_kept (Found counter id end) = refl
  first_kept (Retired end) = refl
  first_kept (Counted ready true) = refl
  first_kept (Counted ready false) = refl
  first_kept (Took words) = refl

  -- live requests have indices of one window of 2 ^ 16
  counters_rise : (ok : IsPlace place) (n k : ℕ) → q.retired ≤ n → n < k → k < q.taken → index_of q n % 2 ^ 16 ≢ index_of q k % 2 ^ 16
  counters_rise ok n k live low high =
      let inside : k < length q.requests = omega (arith, high, s.taken, s.rung) in
      let up = rises_by place q s n k low (omega (arith, inside)) in
      let first = rises place q s q.retired n live (omega (arith, low, inside)) in
      let last = rises place q s k (length q.requests) (omega (arith, inside)) (omega arith) in
      remainders (index_of q n) (index_of q k) (2 ^ 16) (omega (arith, up, span_some place (slice_index (request_of q n).words 0)))
      (omega (arith, first, last, last_index place q s, window place q s ok, ok.few_blocks))

  one_counter : (ok : IsPlace place) (counter n k : ℕ) → IsTaken q counter n → IsTaken q counter k → n ≡ k
  one_counter ok counter n k h g = elim (cases_lt n k) [
    | inl below ↦ absurd (counters_rise ok n k h.retired below g.taken (sym h.counter_is ∙ g.counter_is))
    | inr above ↦ elim (cases_lt k n) [
      | inl below ↦ absurd (counters_rise ok k n g.retired below h.taken (sym g.counter_is ∙ h.counter_is))
      | inr same ↦ omega (arith, above, same)
    ]
  ]

order_after : (place : WqPlace) (q : Queue) (events : List WqEvent) → Order place q → IsLegal place q events → Order place (fold (after_event place) q events)
order_after place q [] s legal = s
order_after place q (e ∷ events) s legal = order_after place (after_event place q e) events (order_step place q s e legal.0) legal.1

pub empty_order : (place : WqPlace) (index : ℕ) → Order place (empty_queue index)
empty_order place index = record { retired = omega arith; taken = omega arith; rung = omega arith; bound = omega arith; spaced = λ n h. absurd (omega (arith, h)) }

pub one_request : (place : WqPlace) (index : ℕ) (events : List WqEvent) (counter n k : ℕ) → IsPlace place → IsLegal place (empty_queue index) events
    → IsTaken (fold (after_event place) (empty_queue index) events) counter n → IsTaken (fold (after_event place) (empty_queue index) events) counter k → n ≡ k
one_request place index events counter n k ok legal h g = one_counter place (fold (after_event place) (empty_queue index) events) (order_after place (empty_queue index) events (empty_order place index) legal) ok counter n k h g
