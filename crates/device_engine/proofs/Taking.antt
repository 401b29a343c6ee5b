-- The last word of an entry takes the request.
use Rattle.std.proofs.Common.{◌≡◌, ℕ, ◌+◌, ◌-◌, ◌*◌, ◌<◌, ◌≤◌, ◌==◌, refl, sym, ap, ◌∙◌, subst, arith, cond, Bool, true, false, List, [], ◌∷◌, ◌++◌, length, eqb-true, Option, Some, None}
use Rattle.std.specs.Prelude.{slice_index, nat_lt, ◌&&◌, ◌/◌, ◌%◌, ◌^◌}
use Rattle.std.proofs.lemmas.Bool.{cond_both, ltb-false, cond-true}
use Rattle.std.proofs.lemmas.List.{get_or-take, length-take}
use Rattle.bus_core.specs.declared.operation.BusEntry.{BusEntry}
use Rattle.bus_core.specs.declared.turn.Step.{Step}
use Rattle.bus_core.specs.declared.turn.Step.TheVariants.{More, Gave, Done}
use Rattle.bus_core.specs.Operation.{loaded}
use Rattle.counted_ring.specs.declared.device.WqSeen.{WqSeen}
use Rattle.counted_ring.specs.declared.device.WqSeen.TheVariants as answers
use Rattle.counted_ring.specs.declared.place.WqPlace.{WqPlace}
use Rattle.counted_ring.specs.Device.{WqReader, reach, is_whole, reader_with, after_read, read_says}
use Rattle.counted_ring.specs.DeviceView.{DeviceView, DeviceTurn, Read}
use Rattle.counted_ring.specs.Place.{span, entry_words}
use Rattle.counted_ring.specs.Queue.{WqEvent, Took}
use Rattle.counted_ring.proofs.Shape.{span_some}
use Rattle.work_entries.specs.declared.units.SendWords.{SendWords}
use Rattle.device_engine.specs.declared.pair.Pair.{Pair}
use Rattle.device_engine.specs.declared.outcome.NextWork.TheVariants.{Publish, Next}
use Rattle.device_engine.specs.declared.outcome.Outcome.{Outcome}
use Rattle.device_engine.specs.Entry.{wants, nop_cqe}
use Rattle.device_engine.specs.Pair.{CanRead, Reads, LeavesTask, pair_read, with_request, with_side}
use Rattle.device_engine.specs.NextWork.{entry_of, comes_asked, fetch_note, told_read}

answered : (answer : Step (Unit {0}) WqSeen) (entry : SendWords) → Some entry ≡ entry_of answer → answer ≡ Done (answers.Read entry)
answered More entry h = absurd (cc)
answered (Gave part) entry h = absurd (cc)
answered (Done answers.Same) entry h = absurd (cc)
answered (Done answers.Changed) entry h = absurd (cc)
answered (Done (answers.Count ready)) entry h = absurd (cc)
answered (Done (answers.Read other)) entry h = cc

-- how much of what was ready an entry takes
reach_some : (place : WqPlace) (ready first : ℕ) → 0 < ready → 0 < reach place ready first
reach_some place ready first some = cond_both (nat_lt ready (span place first)) ready (span place first) (λ k. 0 < k) (λ t. some) (λ t. span_some place first)

reach_few : (place : WqPlace) (ready first : ℕ) → reach place ready first ≤ ready
reach_few place ready first = cond_both (nat_lt ready (span place first)) ready (span place first) (λ k. k ≤ ready) (λ t. omega arith) (λ t. ltb-false ready (span place first) t)

-- what the device reads of a whole entry
record IsWhole (place : WqPlace) (d : WqReader) (entry : SendWords) (words : List ℕ) : Type 0 where
  words_are : words ≡ entry_words place entry
  whole : is_whole place d.ready words ≡ true

whole_by : (place : WqPlace) (d : WqReader) (entry : SendWords) (words : List ℕ) (whole : Bool)
    → is_whole place d.ready words ≡ whole → Some (Took (entry_words place entry)) ≡ cond whole (Some (Took words)) None → IsWhole place d entry words
whole_by place d entry words true is says = record { words_are = cc; whole = is }
whole_by place d entry words false is says = absurd (cc)

module _ (place : WqPlace) (d : WqReader) (entry : SendWords) (words : List ℕ) (stride : place.stride ≡ 8) (some : 0 < d.ready) (w : IsWhole place d entry words) where
  long : length words ≡ reach place d.ready (slice_index words 0) * place.stride
  long = eqb-true _ _ w.whole

  some_words : 8 ≤ entry.blocks * place.stride
  some_words =
      let r = reach place d.ready (slice_index words 0) in
      let more : 8 ≤ r * place.stride = rw stride (omega (arith, reach_some place d.ready (slice_index words 0) some)) in
      let most : length (entry_words place entry) ≤ entry.blocks * place.stride = omega (arith, length-take (entry.blocks * place.stride) entry.words) in
      omega (arith, more, most, long, ap length w.words_are)

  -- the entry begins as its words do
  front : (k : ℕ) → k < 8 → slice_index words k ≡ slice_index entry.words k
  front k low = ap (λ (ws : List ℕ). slice_index ws k) w.words_are ∙ get_or-take (entry.blocks * place.stride) entry.words k 0 (omega (arith, some_words))

  wants_same : wants words ≡ wants entry.words
  wants_same = ap (λ n. (n / 2 ^ 32 % 2 ^ 8 == 0) && (slice_index words 1 / 2 ^ 35 % 2 == 1)) (front 0 (omega arith)) ∙ ap (λ n. (slice_index entry.words 0 / 2 ^ 32 % 2 ^ 8 == 0) && (n / 2 ^ 35 % 2 == 1)) (front 1 (omega arith))

  -- where the device stands thereafter
  abbrev blocks : ℕ
  blocks = reach place d.ready (slice_index entry.words 0)

  after : reader_with place d words ≡ record { next = d.next + blocks; ready = d.ready - blocks; register = d.register; words = [] }
  after =
      cond-true (is_whole place d.ready words) _ _ w.whole
      ∙ ap (λ (first : ℕ). record { next = d.next + reach place d.ready first; ready = d.ready - reach place d.ready first; register = d.register; words = [] }) (front 0 (omega arith))

module _ (old begun turned new : Pair) (made : DeviceView) (e : BusEntry) (answer : Step (Unit {0}) WqSeen) (entry : SendWords) (told : Outcome)
    (can : CanRead old) (begins : begun ≡ with_side old old.requests.side (Some Read))
    (turn : DeviceTurn begun.requests made e answer) (gives : Some entry ≡ entry_of answer)
    (turned_is : turned ≡ record begun { requests = made })
    (told_is : told ≡ record { comes = comes_asked turned entry.words; note = Some (fetch_note turned.number (turned.taken + 1)) })
    (new_is : new ≡ record turned { next = turned.next + reach turned.place ((turned.requests.side.next + turned.requests.side.ready) - turned.next) (slice_index entry.words 0); taken = turned.taken + 1 }) where
  abbrev place : WqPlace
  place = old.requests.place

  abbrev d : WqReader
  d = old.requests.side

  abbrev words : List ℕ
  words = d.words ++ loaded e ∷ []

  abbrev Reading : Step (Unit {0}) WqSeen → Type 0
  Reading a = DeviceTurn (record { place = place; side = d; task = Some Read }) made e a

  t : Reading (Done (answers.Read entry))
  t = subst Reading (answered answer entry gives) (subst (λ (p : Pair). DeviceTurn p.requests made e answer) begins turn)

  w : IsWhole place d entry words
  w = whole_by place d entry words (is_whole place d.ready words) refl t.says

  event : Some (Took words) ≡ read_says place d e
  event = sym (cond-true (is_whole place d.ready words) _ _ w.whole)

  abbrev with_made : Pair → Pair
  with_made p = record p { requests = made }

  is : turned ≡ with_made old
  is = turned_is ∙ ap with_made begins

  abbrev told_of : Pair → Outcome
  told_of p = record { comes = comes_asked p entry.words; note = Some (fetch_note p.number (p.taken + 1)) }

  told_whole : told ≡ told_read old (Some (Took words))
  told_whole =
      told_is
      ∙ (ap told_of is
      ∙ ap (λ (b : Bool). record { comes = cond b (Publish old.send_cq (nop_cqe old.number old.next)) Next; note = Some (fetch_note old.number (old.taken + 1)) }) (sym (wants_same place d entry words can.matched.stride can.ready w)))

  task_is : new.requests.task ≡ made.task
  task_is = ap (λ (p : Pair). p.requests.task) new_is ∙ ap (λ (p : Pair). p.requests.task) turned_is

  side_is : made.side ≡ record { next = d.next + blocks place d entry words can.matched.stride can.ready w; ready = d.ready - blocks place d entry words can.matched.stride can.ready w; register = d.register; words = [] }
  side_is = t.side ∙ after place d entry words can.matched.stride can.ready w

  requests_are : made ≡ record { place = place; side = after_read place d e; task = new.requests.task }
  requests_are = λ i. record { place = t.place i; side = t.side i; task = sym task_is i }

  ready_is : (made.side.next + made.side.ready) - old.next ≡ d.ready
  ready_is =
      let few = reach_few place d.ready (slice_index entry.words 0) in
      omega (arith, few, can.matched.next, ap (λ (r : WqReader). r.next) side_is, ap (λ (r : WqReader). r.ready) side_is)

  next_is : old.next + reach old.place ((made.side.next + made.side.ready) - old.next) (slice_index entry.words 0) ≡ (after_read place d e).next
  next_is =
      ap (λ (n : ℕ). n + reach old.place ((made.side.next + made.side.ready) - old.next) (slice_index entry.words 0)) can.matched.next
      ∙ (ap (λ (n : ℕ). d.next + reach old.place n (slice_index entry.words 0)) ready_is
      ∙ (ap (λ (pl : WqPlace). d.next + reach pl d.ready (slice_index entry.words 0)) can.matched.place
      ∙ sym (ap (λ (r : WqReader). r.next) (sym t.side ∙ side_is))))

  abbrev passed_by : Pair → Pair
  passed_by p = record p { next = p.next + reach p.place ((p.requests.side.next + p.requests.side.ready) - p.next) (slice_index entry.words 0); taken = p.taken + 1 }

  pair_whole : new ≡ with_request old (after_read place d e) new.requests.task
  pair_whole =
      new_is
      ∙ (ap passed_by is
      ∙ λ i. record { requests = requests_are i; place = old.place; number = old.number; next = next_is i; taken = old.taken + 1; may_send = old.may_send; send_cq = old.send_cq })

  pub taken_whole : Reads old new e told
  taken_whole = record {
    may = t.may;
    inside = t.inside;
    told_is = told_whole ∙ ap (told_read old) event;
    task = subst (λ (v : Option WqEvent). LeavesTask v new.requests.task) event (task_is ∙ t.task);
    pair = pair_whole ∙ ap (pair_read old (after_read place d e) new.requests.task) event;
  }
