-- What the steps of a queue are to a history of verbs.
use Rattle.std.proofs.Common.{◌≡◌, ℕ, ◌+◌, ◌-◌, zero, suc, ap, sym, ◌∙◌, arith, List, [], ◌∷◌, Some, length-append}
use Rattle.std.specs.Prelude.{drop, slice_get, fold}
use Rattle.std.proofs.lemmas.List.{drop-append-le, drop-drop, length-drop}
use Rattle.std.proofs.lemmas.Option.{slice_get_within, get_or_from_slice_get, slice_get-get_or}
use Rattle.cq_pair.specs.Queue.{PlainQueue, QueueEvent, Published, Overrun, Lost, Took, Empty, Acked, MayHappen, after_event, IsLegal, empty_queue, since}
use Rattle.cq_pair.specs.Rows.{ReadsAsHistory, IsOrdered, StaysOrdered}

-- the list from an item on
drop_from : {X : Type 0} (xs : List X) (k : ℕ) (x : X) → slice_get xs k ≡ Some x → drop k xs ≡ x ∷ drop (suc k) xs
drop_from [] k x h = let inside = slice_get_within [] k x h in absurd (omega arith)
drop_from (y ∷ xs) zero x h = ap (λ z. z ∷ xs) (get_or_from_slice_get (y ∷ xs) 0 x x h)
drop_from (y ∷ xs) (suc k) x h = drop_from xs k x (slice_get-get_or xs k x (omega (arith, slice_get_within (y ∷ xs) (suc k) x h)) ∙ ap (λ z. Some z) (get_or_from_slice_get (y ∷ xs) (suc k) x x h))

pub reads_as_history : (size : ℕ) (q : PlainQueue) → ReadsAsHistory size q
reads_as_history size q = record {
  published = λ index from completion may high. drop-append-le (from - q.acked) q.completions (completion ∷ []) (omega arith);
  took = λ index completion may.
      let next : index + 1 - q.acked ≡ suc (index - q.acked) = omega (arith, may.acked) in
      drop_from q.completions (index - q.acked) completion may.found ∙ ap (λ k. completion ∷ drop k q.completions) (sym next);
  empty = λ index may. ap (since q) may.index_is ∙ may.none;
  acked = λ ci from may low. drop-drop (from - ci) (ci - q.acked) q.completions ∙ ap (λ k. drop k q.completions) (omega (arith, may.acked));
  counted = λ from low high. omega (arith, length-drop (from - q.acked) q.completions);
}

ordered_step : (size : ℕ) (q : PlainQueue) (event : QueueEvent) → IsOrdered size q → MayHappen size q event → IsOrdered size (after_event q event)
ordered_step size q (Published index completion) o may =
    let longer = length-append q.completions (completion ∷ []) in
    record { polled_low = o.polled_low; polled_high = omega (arith, o.polled_high, longer); bound = omega (arith, may.room, longer) }
ordered_step size q (Overrun index ci) o may = record { polled_low = o.polled_low; polled_high = o.polled_high; bound = o.bound }
ordered_step size q Lost o may = o
ordered_step size q (Took index completion) o may =
    record { polled_low = omega (arith, may.acked); polled_high = omega (arith, may.acked, slice_get_within q.completions (index - q.acked) completion may.found); bound = o.bound }
ordered_step size q (Empty index) o may = o
ordered_step size q (Acked ci) o may =
    let fewer = length-drop (ci - q.acked) q.completions in
    record { polled_low = may.polled; polled_high = omega (arith, o.polled_high, may.acked, may.polled, fewer); bound = omega (arith, o.bound, o.polled_high, may.acked, may.polled, fewer) }

ordered_after : (size : ℕ) (q : PlainQueue) (events : List QueueEvent) → IsOrdered size q → IsLegal size q events → IsOrdered size (fold after_event q events)
ordered_after size q [] o legal = o
ordered_after size q (event ∷ events) o legal = ordered_after size (after_event q event) events (ordered_step size q event o legal.0) legal.1

pub stays_ordered : (size index : ℕ) → StaysOrdered size index
stays_ordered size index events legal = ordered_after size (empty_queue index) events (record { polled_low = omega arith; polled_high = omega arith; bound = omega arith }) legal
