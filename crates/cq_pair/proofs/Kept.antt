-- What a legal history of a queue says of its completions.
use Rattle.std.proofs.Common.{◌≡◌, ℕ, ◌+◌, ◌-◌, ◌<◌, ◌≤◌, inl, inr, refl, ap, sym, ◌∙◌, subst, arith, false, List, [], ◌∷◌, ◌++◌, length, Some, length-append, append_assoc}
use Rattle.std.specs.Prelude.{drop, slice_get}
use Rattle.std.specs.List.{Contains, filter}
use Rattle.std.proofs.lemmas.List.{append-nil, get_or-drop, get_or_push, get_or_append_left, length-drop}
use Rattle.std.proofs.lemmas.List.Elements.{Contains-append_left, Contains-push}
use Rattle.std.proofs.lemmas.Option.{slice_get_within, get_or_from_slice_get, slice_get-get_or}
use Rattle.std.proofs.lemmas.Bool.{cases_lt}
use Rattle.bus_core.proofs.Lists.{filter_takes_last, filter_skips_last}
use Rattle.cqe_format.specs.declared.completion.Cqe.{Cqe}
use Rattle.cq_pair.specs.Queue.{PlainQueue, QueueEvent, Published, Overrun, Lost, Took, Empty, Acked, MayHappen, after_event, IsLegal, empty_queue, produced, is_publication, publications, KeepsCompletions}

-- the completion of an index, in a list one longer
found_more : (cs : List Cqe) (c x : Cqe) (k : ℕ) → slice_get (cs ++ c ∷ []) k ≡ Some x → k < length cs → slice_get cs k ≡ Some x
found_more cs c x k h low = slice_get-get_or cs k x low ∙ ap (λ y. Some y) (sym (get_or_append_left cs (c ∷ []) x k low) ∙ get_or_from_slice_get (cs ++ c ∷ []) k x x h)

found_last : (cs : List Cqe) (c x : Cqe) (k : ℕ) → slice_get (cs ++ c ∷ []) k ≡ Some x → k ≡ length cs → c ≡ x
found_last cs c x k h last = sym (get_or_push cs c x k (sym last)) ∙ get_or_from_slice_get (cs ++ c ∷ []) k x x h

-- and in one that lost its front
found_fewer : (cs : List Cqe) (n k : ℕ) (x : Cqe) → slice_get (drop n cs) k ≡ Some x → slice_get cs (n + k) ≡ Some x
found_fewer cs n k x h =
    let inside = slice_get_within (drop n cs) k x h in
    slice_get-get_or cs (n + k) x (omega (arith, inside, length-drop n cs)) ∙ ap (λ y. Some y) (sym (get_or-drop n cs k x) ∙ get_or_from_slice_get (drop n cs) k x x h)

-- a queue after these events
record Kept (start : ℕ) (past : List QueueEvent) (q : PlainQueue) : Type 0 where
  count : produced q ≡ start + publications past
  polled : q.polled ≤ produced q
  found : (n : ℕ) (x : Cqe) → q.acked ≤ n → slice_get q.completions (n - q.acked) ≡ Some x → Contains past (Published n x)

-- an event that publishes nothing
same_list : (start : ℕ) (past : List QueueEvent) (q : PlainQueue) (e : QueueEvent) → is_publication e ≡ false → Kept start past q → Kept start (past ++ e ∷ []) q
same_list start past q e none k = record {
  count = k.count ∙ ap (λ (es : List QueueEvent). start + length es) (sym (filter_skips_last is_publication past e none));
  polled = k.polled;
  found = λ n x low h. Contains-append_left past (e ∷ []) (Published n x) (k.found n x low h);
}

step : (start size : ℕ) (past : List QueueEvent) (q : PlainQueue) (e : QueueEvent) → Kept start past q → MayHappen size q e → Kept start (past ++ e ∷ []) (after_event q e)
step start size past q (Published i c) k may =
    let e : QueueEvent = Published i c in
    let more = length-append q.completions (c ∷ []) in
    record {
      count = omega (arith, more, k.count, ap (λ (es : List QueueEvent). length es) (filter_takes_last is_publication past e refl), length-append (filter is_publication past) (e ∷ []));
      polled = omega (arith, more, k.polled);
      found = λ n x low h. elim (cases_lt (n - q.acked) (length q.completions)) [
        | inl before ↦ Contains-append_left past (e ∷ []) (Published n x) (k.found n x low (found_more q.completions c x (n - q.acked) h before))
        | inr past_all ↦
            let inside = slice_get_within (q.completions ++ c ∷ []) (n - q.acked) x h in
            let last : n - q.acked ≡ length q.completions = omega (arith, inside, more) in
            let here : i ≡ n = omega (arith, last, may.index_is) in
            subst (λ (y : Cqe). Contains (past ++ e ∷ []) (Published n y)) (found_last q.completions c x (n - q.acked) h last)
            (subst (λ (j : ℕ). Contains (past ++ e ∷ []) (Published j c)) here (Contains-push past e))
      ];
    }
step start size past q (Overrun i ci) k may = let kept = same_list start past q (Overrun i ci) refl k in record { count = kept.count; polled = kept.polled; found = kept.found }
step start size past q Lost k may = same_list start past q Lost refl k
step start size past q (Took i c) k may = let kept = same_list start past q (Took i c) refl k in record { count = kept.count; polled = omega (arith, may.acked, slice_get_within q.completions (i - q.acked) c may.found); found = kept.found }
step start size past q (Empty i) k may = same_list start past q (Empty i) refl k
step start size past q (Acked ci) k may =
    let kept = same_list start past q (Acked ci) refl k in
    let same : produced (after_event q (Acked ci)) ≡ produced q = omega (arith, may.acked, may.polled, k.polled, length-drop (ci - q.acked) q.completions) in
    record {
      count = same ∙ kept.count;
      polled = omega (arith, same, k.polled);
      found = λ n x low h. kept.found n x (omega (arith, may.acked)) (ap (slice_get q.completions) (omega (arith, may.acked)) ∙ found_fewer q.completions (ci - q.acked) (n - ci) x h);
    }

-- a legal history up to an event
record UpTo (size start : ℕ) (past : List QueueEvent) (e : QueueEvent) : Type 0 where
  queue : PlainQueue
  kept : Kept start past queue
  may : MayHappen size queue e

up_to : (size start : ℕ) (past before after : List QueueEvent) (q : PlainQueue) (e : QueueEvent) → Kept start past q → IsLegal size q (before ++ e ∷ after) → UpTo size start (past ++ before) e
up_to size start past [] after q e k legal = record { queue = q; kept = subst (λ (es : List QueueEvent). Kept start es q) (sym (append-nil past)) k; may = legal.0 }
up_to size start past (x ∷ before) after q e k legal =
    subst (λ (es : List QueueEvent). UpTo size start es e) (append_assoc past (x ∷ []) before) (up_to size start (past ++ x ∷ []) before after (after_event q x) e (step start size past q x k legal.0) legal.1)

from_start : (size start : ℕ) (before after : List QueueEvent) (e : QueueEvent) → IsLegal size (empty_queue start) (before ++ e ∷ after) → UpTo size start before e
from_start size start before after e legal =
    up_to size start [] before after (empty_queue start) e (record { count = omega arith; polled = omega arith; found = λ n x low h. let inside = slice_get_within [] (n - start) x h in absurd (omega arith) }) legal

pub keeps_completions : (size start : ℕ) → KeepsCompletions size start
keeps_completions size start = record {
  in_order = λ before after index completion legal.
      let u = from_start size start before after (Published index completion) legal in
      u.may.index_is ∙ u.kept.count;
  taken = λ before after index completion legal.
      let u = from_start size start before after (Took index completion) legal in
      u.kept.found index completion u.may.acked u.may.found;
}
