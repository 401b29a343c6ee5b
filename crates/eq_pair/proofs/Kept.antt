-- What a legal history of a queue says of its events.
use Rattle.std.proofs.Common.{◌≡◌, ℕ, ◌≤◌, refl, ap, sym, ◌∙◌, subst, arith, List, [], ◌∷◌, ◌++◌, length, take, Some, length-append, append_assoc}
use Rattle.std.specs.Prelude.{drop, slice_get, fold}
use Rattle.std.proofs.lemmas.List.{append-nil, take-append-le, take_more, length-drop}
use Rattle.std.proofs.Math.Seq.{take-length}
use Rattle.std.proofs.lemmas.List.Elements.{filter_map-append}
use Rattle.std.proofs.lemmas.Option.{slice_get_within, get_or_from_slice_get}
use Rattle.verbs_types.specs.declared.completion.EventRecord.{EventRecord}
use Rattle.eq_pair.specs.Queue.{EventList, EqEvent, Written, Took, NoEvent, Gave, MayHappen, after_event, IsLegal, no_events, written_by, given_by, all_written, all_given, KeepsEvents}
use Rattle.eq_pair.proofs.Lists.{parts}

-- a queue after these events
record Kept (past : List EqEvent) (q : EventList) : Type 0 where
  written : q.written ≡ all_written past
  given : q.given ≡ length (all_given past)
  low : q.given ≤ length q.written
  front : all_given past ≡ take q.given q.written

writes_more : (past : List EqEvent) (e : EqEvent) → all_written (past ++ e ∷ []) ≡ all_written past ++ all_written (e ∷ [])
writes_more past e = filter_map-append written_by past (e ∷ [])

gives_more : (past : List EqEvent) (e : EqEvent) → all_given (past ++ e ∷ []) ≡ all_given past ++ all_given (e ∷ [])
gives_more past e = filter_map-append given_by past (e ∷ [])

-- an event that neither writes nor gives
idle : (past : List EqEvent) (q q' : EventList) (e : EqEvent) → all_written (e ∷ []) ≡ [] → all_given (e ∷ []) ≡ [] → q'.written ≡ q.written → q'.given ≡ q.given → Kept past q → Kept (past ++ e ∷ []) q'
idle past q q' e no_write no_give same_written same_given k =
    let writes : all_written (past ++ e ∷ []) ≡ all_written past = writes_more past e ∙ (ap (λ es. all_written past ++ es) no_write ∙ append-nil (all_written past)) in
    let gives : all_given (past ++ e ∷ []) ≡ all_given past = gives_more past e ∙ (ap (λ es. all_given past ++ es) no_give ∙ append-nil (all_given past)) in
    record {
      written = same_written ∙ (k.written ∙ sym writes);
      given = same_given ∙ (k.given ∙ ap length (sym gives));
      low = omega (arith, k.low, same_given, ap length same_written);
      front = gives ∙ (k.front ∙ (ap (λ n. take n q.written) (sym same_given) ∙ ap (take q'.given) (sym same_written)));
    }

step : (size : ℕ) (past : List EqEvent) (q : EventList) (e : EqEvent) → Kept past q → MayHappen size q e → Kept (past ++ e ∷ []) (after_event q e)
step size past q (Written i event) k may =
    let e : EqEvent = Written i event in
    let gives : all_given (past ++ e ∷ []) ≡ all_given past = gives_more past e ∙ append-nil (all_given past) in
    record {
      written = ap (λ es. es ++ event ∷ []) k.written ∙ sym (writes_more past e);
      given = k.given ∙ ap length (sym gives);
      low = omega (arith, k.low, length-append q.written (event ∷ []));
      front = gives ∙ (k.front ∙ sym (take-append-le q.given q.written (event ∷ []) k.low));
    }
step size past q (Took i event) k may = idle past q (after_event q (Took i event)) (Took i event) refl refl refl refl k
step size past q (NoEvent i) k may = idle past q q (NoEvent i) refl refl refl refl k
step size past q (Gave i event) k may =
    let e : EqEvent = Gave i event in
    let inside = slice_get_within q.written i event may.found in
    let writes : all_written (past ++ e ∷ []) ≡ all_written past = writes_more past e ∙ append-nil (all_written past) in
    record {
      written = k.written ∙ sym writes;
      given = omega (arith, may.index_is, k.given, ap length (gives_more past e), length-append (all_given past) (event ∷ []));
      low = omega (arith, inside);
      front =
          gives_more past e ∙ (ap (λ es. es ++ event ∷ []) (k.front ∙ ap (λ n. take n q.written) (sym may.index_is))
          ∙ (ap (λ x. take i q.written ++ x ∷ []) (sym (get_or_from_slice_get q.written i event event may.found)) ∙ sym (take_more q.written i event inside)));
    }

after_all : (size : ℕ) (past events : List EqEvent) (q : EventList) → Kept past q → IsLegal size q events → Kept (past ++ events) (fold after_event q events)
after_all size past [] q k legal = subst (λ (es : List EqEvent). Kept es q) (sym (append-nil past)) k
after_all size past (e ∷ events) q k legal =
    subst (λ (es : List EqEvent). Kept es (fold after_event (after_event q e) events)) (append_assoc past (e ∷ []) events) (after_all size (past ++ e ∷ []) events (after_event q e) (step size past q e k legal.0) legal.1)

from_start : (size : ℕ) (events : List EqEvent) → IsLegal size no_events events → Kept events (fold after_event no_events events)
from_start size events legal = after_all size [] events no_events (record { written = refl; given = refl; low = omega arith; front = refl }) legal

-- a legal history up to an event
record UpTo (size : ℕ) (past : List EqEvent) (e : EqEvent) : Type 0 where
  queue : EventList
  kept : Kept past queue
  may : MayHappen size queue e

up_to : (size : ℕ) (before after : List EqEvent) (e : EqEvent) → IsLegal size no_events (before ++ e ∷ after) → UpTo size before e
up_to size before after e legal =
    let p = parts (MayHappen size) after_event no_events before after e legal in
    record { queue = fold after_event no_events before; kept = from_start size before p.front; may = p.here }

module _ (past : List EqEvent) (q : EventList) (k : Kept past q) where
  -- the event of the next index, in the words of the history
  first : (i : ℕ) (event : EventRecord) → i ≡ q.given → slice_get q.written i ≡ Some event → (i ≡ length (all_given past)) × (slice_get (all_written past) i ≡ Some event)
  first i event is found = (is ∙ k.given, ap (λ es. slice_get es i) (sym k.written) ∙ found)

  all_of : drop q.given q.written ≡ [] → all_given past ≡ all_written past
  all_of none =
      let whole : q.given ≡ length q.written = omega (arith, k.low, length-drop q.given q.written, ap length none) in
      k.front ∙ (ap (λ n. take n q.written) whole ∙ (take-length q.written ∙ k.written))

pub keeps_events : (size : ℕ) → KeepsEvents size
keeps_events size = record {
  in_order = λ events legal. let k = from_start size events legal in k.front ∙ (ap (λ n. take n (fold after_event no_events events).written) k.given ∙ ap (take (length (all_given events))) k.written);
  written = λ before after index event legal.
      let u = up_to size before after (Written index event) legal in
      (u.may.index_is ∙ ap length u.kept.written, omega (arith, u.may.index_is, u.may.room, u.kept.given));
  taken = λ before after index event legal.
      let u = up_to size before after (Took index event) legal in
      first before u.queue u.kept index event u.may.index_is u.may.found;
  given = λ before after index event legal.
      let u = up_to size before after (Gave index event) legal in
      first before u.queue u.kept index event u.may.index_is u.may.found;
  none = λ before after index legal.
      let u = up_to size before after (NoEvent index) legal in
      all_of before u.queue u.kept u.may.none;
}
