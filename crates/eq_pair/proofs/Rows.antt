-- What the steps of an event queue are to a history of verbs.
use Rattle.std.proofs.Common.{◌≡◌, ℕ, ◌+◌, suc, refl, ap, sym, ◌∙◌, arith, List, [], ◌∷◌, None, length-append}
use Rattle.std.specs.Prelude.{drop, fold}
use Rattle.std.proofs.lemmas.List.{drop-append-le, length-drop}
use Rattle.std.proofs.lemmas.Option.{slice_get_within}
use Rattle.verbs_types.specs.declared.completion.EventRecord.{EventRecord}
use Rattle.eq_pair.specs.Queue.{EventList, EqEvent, Written, Took, NoEvent, Gave, IsWritten, MayHappen, after_event, IsLegal, no_events, written_by, since}
use Rattle.eq_pair.specs.Rows.{ReadsAsHistory, IsOrdered, StaysOrdered}
use Rattle.eq_pair.proofs.Lists.{drop_from, found_more}

-- what is written stays
pub written_stays : (q : EventList) (index : ℕ) (event : EventRecord) (e : EqEvent) → IsWritten q index event → IsWritten (after_event q e) index event
written_stays q index event (Written i new) h = found_more q.written new event index h
written_stays q index event (Took i taken) h = h
written_stays q index event (NoEvent i) h = h
written_stays q index event (Gave i given) h = h

others_leave : (q : EventList) (from : ℕ) (e : EqEvent) → written_by e ≡ None → since (after_event q e) from ≡ since q from
others_leave q from (Written i new) none = absurd (cc)
others_leave q from (Took i taken) none = refl
others_leave q from (NoEvent i) none = refl
others_leave q from (Gave i given) none = refl

pub reads_as_history : (size : ℕ) (q : EventList) → ReadsAsHistory size q
reads_as_history size q = record {
  written = λ index from event may high. drop-append-le from q.written (event ∷ []) high;
  others = λ from e none. others_leave q from e none;
  took = λ index event may. may.found;
  gave = λ index event may. may.found;
  first = λ index event h.
      let next : index + 1 ≡ suc index = omega arith in
      drop_from q.written index event h ∙ ap (λ k. event ∷ drop k q.written) (sym next);
  stays = λ index event e h. written_stays q index event e h;
  none = λ index may. ap (since q) may.index_is ∙ may.none;
  counted = λ from high. omega (arith, length-drop from q.written);
}

ordered_step : (size : ℕ) (q : EventList) (e : EqEvent) → IsOrdered size q → MayHappen size q e → IsOrdered size (after_event q e)
ordered_step size q (Written index event) o may =
    let longer = length-append q.written (event ∷ []) in
    record { given_low = omega (arith, o.given_low, longer); bound = omega (arith, may.room, longer); taken_low = o.taken_low; taken_high = o.taken_high; taken_written = omega (arith, o.taken_written, longer) }
ordered_step size q (Took index event) o may =
    let inside = slice_get_within q.written index event may.found in
    record { given_low = o.given_low; bound = o.bound; taken_low = omega (arith, may.index_is); taken_high = omega (arith, may.index_is); taken_written = omega (arith, inside) }
ordered_step size q (NoEvent index) o may = o
ordered_step size q (Gave index event) o may =
    let inside = slice_get_within q.written index event may.found in
    record { given_low = omega (arith, inside); bound = omega (arith, o.bound, may.index_is); taken_low = omega (arith, may.taken); taken_high = omega (arith, may.taken); taken_written = o.taken_written }

ordered_after : (size : ℕ) (q : EventList) (events : List EqEvent) → IsOrdered size q → IsLegal size q events → IsOrdered size (fold after_event q events)
ordered_after size q [] o legal = o
ordered_after size q (e ∷ events) o legal = ordered_after size (after_event q e) events (ordered_step size q e o legal.0) legal.1

pub stays_ordered : (size : ℕ) → StaysOrdered size
stays_ordered size events legal = ordered_after size no_events events (record { given_low = omega arith; bound = omega arith; taken_low = omega arith; taken_high = omega arith; taken_written = omega arith }) legal
