-- What a legal history of a queue says of its requests.
use Rattle.std.proofs.Common.{◌≡◌, ℕ, ◌+◌, ◌%◌, ◌^◌, ◌<◌, ◌≤◌, zero, suc, refl, ap, sym, ◌∙◌, subst, arith, true, false, List, [], ◌∷◌, ◌++◌, length, get_or, take, map, sum_by, Some, None, length-append, append_assoc}
use Rattle.std.specs.Prelude.{slice_index, slice_get, filter, option_map}
use Rattle.std.proofs.lemmas.List.{append-nil, map-append, length-map, get_or-map, take_more}
use Rattle.std.proofs.lemmas.List.Elements.{filter_map-append}
use Rattle.std.proofs.lemmas.Option.{slice_get-map, slice_get_within}
use Rattle.std.proofs.lemmas.List.Sums.{sum_by-append}
use Rattle.bus_core.proofs.Following.{fold-push}
use Rattle.bus_core.proofs.Lists.{filter_takes_last, filter_skips_last}
use Rattle.counted_ring.specs.declared.place.WqPlace.{WqPlace}
use Rattle.counted_ring.specs.Place.{span}
use Rattle.counted_ring.specs.Queue.{Request, Queue, WqEvent, Wrote, Full, Rang, Named, Found, Retired, Counted, Took, empty_queue, MayHappen, after_event, IsLegal, index_of}
use Rattle.counted_ring.proofs.Requests.{request_of, span_of}
use Rattle.counted_ring.proofs.Shape.{Order}
use Rattle.counted_ring.proofs.Orders.{order_step, first_kept, empty_order}
use Rattle.counted_ring.specs.Kept.{Written, writes, written, first_block, is_take, takes, tail_after, retirements, KeepsRequests}

abbrev as_written : Request → Written
as_written r = record { words = r.words; id = r.id }

-- a list after these events
record Kept (past : List WqEvent) (q : Queue) : Type 0 where
  requests : map as_written q.requests ≡ written past
  taken : q.taken ≡ takes past
  retired : q.retired ≡ retirements past

module _ (past : List WqEvent) (q : Queue) (k : Kept past q) where
  -- an event that writes, takes and retires nothing
  same_list : (q' : Queue) (e : WqEvent) → writes e ≡ None → is_take e ≡ false → tail_after (retirements past) e ≡ retirements past → q'.requests ≡ q.requests → q'.taken ≡ q.taken → q'.retired ≡ q.retired → Kept (past ++ e ∷ []) q'
  same_list q' e none no_take no_tail requests taken retired = record {
    requests = ap (map as_written) requests ∙ (k.requests ∙ sym (filter_map-append writes past (e ∷ []) ∙ rw none (append-nil (written past))));
    taken = taken ∙ (k.taken ∙ ap (λ (es : List WqEvent). length es) (sym (filter_skips_last is_take past e no_take)));
    retired = retired ∙ (k.retired ∙ sym (fold-push tail_after 0 past e ∙ no_tail));
  }

  one_taken : (e : WqEvent) → writes e ≡ None → is_take e ≡ true → tail_after (retirements past) e ≡ retirements past → Kept (past ++ e ∷ []) (record { requests = q.requests; next = q.next; rung = q.rung; taken = q.taken + 1; retired = q.retired })
  one_taken e none take no_tail = record {
    requests = k.requests ∙ sym (filter_map-append writes past (e ∷ []) ∙ rw none (append-nil (written past)));
    taken = omega (arith, k.taken, ap (λ (es : List WqEvent). length es) (filter_takes_last is_take past e take), length-append (filter is_take past) (e ∷ []));
    retired = k.retired ∙ sym (fold-push tail_after 0 past e ∙ no_tail);
  }

  step : (place : WqPlace) (e : WqEvent) → Kept (past ++ e ∷ []) (after_event place q e)
  step place (Wrote words id) = record {
    requests = map-append as_written q.requests (record { index = q.next; words = words; id = id } ∷ []) ∙ (ap (λ ws. ws ++ record { words = words; id = id } ∷ []) k.requests ∙ sym (filter_map-append writes past (Wrote words id ∷ [])));
    taken = k.taken ∙ ap (λ (es : List WqEvent). length es) (sym (filter_skips_last is_take past (Wrote words id) refl));
    retired = k.retired ∙ sym (fold-push tail_after 0 past (Wrote words id));
  }
  step place (Full head tail) = same_list q (Full head tail) refl refl refl refl refl refl
  step place Rang = same_list (after_event place q Rang) Rang refl refl refl refl refl refl
  step place (Named counter id) = same_list q (Named counter id) refl refl refl refl refl refl
  step place (Found counter id end) = same_list q (Found counter id end) refl refl refl refl refl refl
  step place (Retired end) = record {
    requests = k.requests ∙ sym (filter_map-append writes past (Retired end ∷ []) ∙ append-nil (written past));
    taken = k.taken ∙ ap (λ (es : List WqEvent). length es) (sym (filter_skips_last is_take past (Retired end) refl));
    retired = sym (fold-push tail_after 0 past (Retired end));
  }
  step place (Counted ready true) = one_taken (Counted ready true) refl refl refl
  step place (Counted ready false) = same_list q (Counted ready false) refl refl refl refl refl refl
  step place (Took words) = one_taken (Took words) refl refl refl

-- a list in order, whose first block has this index, after these events
record Stands (place : WqPlace) (index : ℕ) (past : List WqEvent) (q : Queue) : Type 0 where
  kept : Kept past q
  order : Order place q
  first : index_of q 0 ≡ index

-- a legal history up to an event
record UpTo (place : WqPlace) (index : ℕ) (past : List WqEvent) (e : WqEvent) : Type 0 where
  queue : Queue
  stands : Stands place index past queue
  may : MayHappen place queue e

up_to : (place : WqPlace) (index : ℕ) (past before after : List WqEvent) (q : Queue) (e : WqEvent) → Stands place index past q → IsLegal place q (before ++ e ∷ after) → UpTo place index (past ++ before) e
up_to place index past [] after q e s legal = record { queue = q; stands = subst (λ (es : List WqEvent). Stands place index es q) (sym (append-nil past)) s; may = legal.0 }
up_to place index past (x ∷ before) after q e s legal =
    let more : Stands place index (past ++ x ∷ []) (after_event place q x) = record { kept = step past q s.kept place x; order = order_step place q s.order x legal.0; first = first_kept place q s.order x ∙ s.first } in
    subst (λ (es : List WqEvent). UpTo place index es e) (append_assoc past (x ∷ []) before) (up_to place index (past ++ x ∷ []) before after (after_event place q x) e more legal.1)

from_start : (place : WqPlace) (index : ℕ) (before after : List WqEvent) (e : WqEvent) → IsLegal place (empty_queue index) (before ++ e ∷ after) → UpTo place index before e
from_start place index before after e legal =
    up_to place index [] before after (empty_queue index) e (record { kept = record { requests = refl; taken = refl; retired = refl }; order = empty_order place index; first = refl }) legal

-- a request of the list is one that was written
was_written : (past : List WqEvent) (q : Queue) (n : ℕ) (r : Request) → Kept past q → slice_get q.requests n ≡ Some r → slice_get (written past) n ≡ Some (as_written r)
was_written past q n r k found = ap (λ ws. slice_get ws n) (sym k.requests) ∙ (slice_get-map as_written q.requests n ∙ ap (option_map as_written) found)

abbrev none_written : Written
none_written = record { words = []; id = 0 }

-- where the request with n before it begins
begins : (place : WqPlace) (index : ℕ) (past : List WqEvent) (q : Queue) (n : ℕ) → Stands place index past q → n ≤ length q.requests → index_of q n ≡ first_block place index past n
begins place index past q zero s h = s.first ∙ omega arith
begins place index past q (suc n) s h =
    let spans : Written → ℕ = λ w. span place (slice_index w.words 0) in
    let inside : n < length q.requests = omega (arith, h) in
    let count : length (written past) ≡ length q.requests = ap (λ (ws : List Written). length ws) (sym s.kept.requests) ∙ length-map q.requests as_written in
    let this : get_or (written past) n none_written ≡ as_written (request_of q n) = ap (λ (ws : List Written). get_or ws n none_written) (sym s.kept.requests) ∙ get_or-map as_written q.requests n (record { index = 0; words = []; id = 0 }) none_written inside in
    let more : take (n + 1) (written past) ≡ take n (written past) ++ get_or (written past) n none_written ∷ [] = take_more (written past) n none_written (omega (arith, inside, count)) in
    let sum : sum_by spans (take (n + 1) (written past)) ≡ sum_by spans (take n (written past)) + span_of place q n =
    omega (arith, ap (sum_by spans) more, sum_by-append spans (take n (written past)) (get_or (written past) n none_written ∷ []), ap spans this) in
    let one : suc n ≡ n + 1 = omega arith in
    let next : index_of q (suc n) ≡ index_of q (n + 1) = ap (index_of q) one in
    let upto : sum_by spans (take (suc n) (written past)) ≡ sum_by spans (take (n + 1) (written past)) = ap (λ (k : ℕ). sum_by spans (take k (written past))) one in
    omega (arith, next, s.order.spaced n inside, begins place index past q n s (omega (arith, h)), sum, upto)

pub keeps_requests : (place : WqPlace) (index : ℕ) → KeepsRequests place index
keeps_requests place index = record {
  took = λ before after words legal.
      let u = from_start place index before after (Took words) legal in
      let there = was_written before u.queue u.queue.taken u.may.request u.stands.kept u.may.found in
      record {
        id = u.may.request.id;
        next = ap (slice_get (written before)) (sym u.stands.kept.taken) ∙ (there ∙ ap (λ (ws : List ℕ). Some (record { words = ws; id = u.may.request.id })) (sym u.may.words_are));
      };
  found = λ before after counter id end legal.
      let u = from_start place index before after (Found counter id end) legal in
      let named = u.may.named in
      let there = was_written before u.queue named.number named.request u.stands.kept named.found in
      record {
        live = omega (arith, u.stands.kept.retired, named.counted.retired, u.may.end_is);
        taken = omega (arith, u.stands.kept.taken, named.counted.taken, u.may.end_is);
        words = named.request.words;
        counter_is = named.counted.counter_is ∙ (ap (λ i. i % 2 ^ 16) (begins place index before u.queue named.number u.stands (omega (arith, slice_get_within u.queue.requests named.number named.request named.found))) ∙ ap (λ n. first_block place index before n % 2 ^ 16) (omega (arith, u.may.end_is)));
        last = ap (slice_get (written before)) (omega (arith, u.may.end_is)) ∙ (there ∙ ap (λ (i : ℕ). Some (record { words = named.request.words; id = i })) (sym named.id_is));
      };
  full = λ before after head tail legal.
      let u = from_start place index before after (Full head tail) legal in
      let count : length u.queue.requests ≡ length (written before) = sym (length-map u.queue.requests as_written) ∙ ap (λ (ws : List Written). length ws) u.stands.kept.requests in
      record { head_is = u.may.head_is ∙ count; tail_is = u.may.tail_is ∙ u.stands.kept.retired; full = omega (arith, u.may.head_is, u.may.tail_is, u.may.full) };
  retired = λ before after end legal.
      let u = from_start place index before after (Retired end) legal in
      (omega (arith, u.may.0, u.stands.kept.retired), omega (arith, u.may.1, u.stands.kept.taken));
}
