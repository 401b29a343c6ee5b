-- A turn of a device that reads.
use Rattle.std.proofs.Common.{◌≡◌, ◌≢◌, ℕ, ◌+◌, ◌-◌, ◌*◌, ◌/◌, ◌<◌, ◌≤◌, inl, inr, refl, ap, sym, ◌∙◌, subst, arith, true, false, eqb, List, [], ◌∷◌, ◌++◌, length, take, Some, None}
use Rattle.std.specs.Prelude.{slice_index, slice_set}
use Rattle.std.proofs.Math.Nat.{mul-le-mul_right, div-lt_iff_lt-mul}
use Rattle.std.proofs.lemmas.Bool.{cases_lt, eq-eqb, ne_eqb}
use Rattle.std.proofs.lemmas.List.{length-take-le, length-set, get_or-set_other}
use Rattle.bus_core.specs.declared.operation.BusEntry.{BusEntry}
use Rattle.bus_core.specs.declared.turn.Step.{Step}
use Rattle.bus_core.specs.declared.turn.Step.TheVariants.{More, Done}
use Rattle.bus_core.specs.Operation.{IsLoad, loaded}
use Rattle.work_entries.specs.declared.units.SendWords.{SendWords}
use Rattle.counted_ring.specs.declared.place.WqPlace.{WqPlace}
use Rattle.counted_ring.specs.declared.device.WqSeen.{WqSeen}
use Rattle.counted_ring.specs.declared.device.WqSeen.TheVariants as answers
use Rattle.counted_ring.specs.Place.{IsPlace, most, touches, word_at, IsClearBehind}
use Rattle.counted_ring.specs.Queue.{Took}
use Rattle.counted_ring.specs.Device.{MayRead, reach, is_whole}
use Rattle.counted_ring.specs.DeviceView.{DeviceView, DeviceTurn, Read}
use Rattle.counted_ring.specs.DeviceInside.{IsReading}
use Rattle.counted_ring.proofs.Shape.{product_some}
use Rattle.counted_ring.proofs.Parts.{long, read_front, read_first, first_kept}

abbrev read : SendWords → Step (Unit {0}) WqSeen
read entry = Done (answers.Read entry)

same_entry : (a b : SendWords) → read a ≡ read b → a ≡ b
same_entry a b is = cc

module _ (place : WqPlace) (next ready register n w blocks : ℕ) (words : List ℕ)
    (ok : IsPlace place) (full : length words ≡ 32) (reads : IsReading place next ready n words)
    (blocks_are : blocks ≡ reach place ready (slice_index (slice_set words n w) 0)) (some : 0 < blocks) (shown : blocks ≤ ready) (few : blocks ≤ most place) where
  inside : n < length words
  inside = omega (arith, full, reads.few)

  -- the word is one of the entry's
  below : n < blocks * place.stride
  below = elim (cases_lt 0 n) [
    | inl later ↦
        let same : reach place ready (slice_index words 0) ≡ blocks = ap (reach place ready) (sym (first_kept words n w later)) ∙ sym blocks_are in
        subst (λ (b : ℕ). n < b * place.stride) same (reads.part later)
    | inr first ↦ omega (arith, product_some blocks place.stride some ok.some_stride, first)
  ]

  all_in : blocks * place.stride ≤ 32
  all_in = omega (arith, ok.few_words, mul-le-mul_right place.stride few)

  behind_more : (k : ℕ) → n + 1 ≤ k → slice_index (slice_set words n w) k ≡ 0
  behind_more k past = get_or-set_other words n k w 0 (omega (arith, past)) ∙ reads.behind k (omega (arith, past))

  pub reads_more : n + 1 ≢ blocks * place.stride → IsReading place next ready (n + 1) (slice_set words n w)
  reads_more part =
      let on : n + 1 < blocks * place.stride = omega (arith, below, part) in
      record { ready_some = reads.ready_some; low = reads.low; few = omega (arith, on, all_in); behind = behind_more; part = λ h. subst (λ (b : ℕ). n + 1 < b * place.stride) blocks_are on }

  whole_is : is_whole place ready (take n words ++ w ∷ []) ≡ eqb (n + 1) (blocks * place.stride)
  whole_is = ap (λ k. eqb k (reach place ready (slice_index (take n words ++ w ∷ []) 0) * place.stride)) (long words n w inside)
      ∙ (ap (λ f. eqb (n + 1) (reach place ready f * place.stride)) (read_first words n w inside) ∙ ap (λ b. eqb (n + 1) (b * place.stride)) (sym blocks_are))

  reach_is : reach place ready (slice_index (take n words ++ w ∷ []) 0) ≡ blocks
  reach_is = ap (reach place ready) (read_first words n w inside) ∙ sym blocks_are

  abbrev old : DeviceView
  old = record { place = place; side = record { next = next; ready = ready; register = register; words = take n words }; task = Some Read }

  short : length (take n words) ≡ n
  short = length-take-le n words (omega (arith, inside))

  module _ (e : BusEntry) (load : IsLoad (word_at place next n) e) (here : touches place e.addr ≡ true) (word_is : loaded e ≡ w) where
    may : MayRead place old.side e
    may = record {
      ready = subst (λ k. k / place.stride < ready) (sym short) (omega (arith, (div-lt_iff_lt-mul ok.some_stride).1 below, shown));
      load = subst (λ k. IsLoad (word_at place next k) e) (sym short) load;
    }

    kept_more : n + 1 ≢ blocks * place.stride → DeviceTurn old (record { place = place; side = record { next = next; ready = ready; register = register; words = take (n + 1) (slice_set words n w) }; task = Some Read }) e More
    kept_more part =
        let test : is_whole place ready (take n words ++ loaded e ∷ []) ≡ false = ap (λ v. is_whole place ready (take n words ++ v ∷ [])) word_is ∙ (whole_is ∙ ne_eqb (n + 1) (blocks * place.stride) part) in
        let front : take n words ++ loaded e ∷ [] ≡ take (n + 1) (slice_set words n w) = ap (λ v. take n words ++ v ∷ []) word_is ∙ read_front words n w inside in
        record {
          may = may;
          inside = here;
          side = rw test (ap (λ ws. record { next = next; ready = ready; register = register; words = ws }) (sym front));
          says = rw test refl;
          looked = λ is. absurd cc;
          counted = λ k is. absurd cc;
          behind = λ entry is. absurd cc;
          task = refl;
          fewer = omega (arith, short, length-take-le (n + 1) (slice_set words n w) (omega (arith, inside, length-set words n w)), inside, full);
          place = refl;
        }

    kept_whole : n + 1 ≡ blocks * place.stride → DeviceTurn old (record { place = place; side = record { next = next + blocks; ready = ready - blocks; register = register; words = [] }; task = None }) e (Done (answers.Read (record { blocks = blocks; words = slice_set words n w })))
    kept_whole all =
        let test : is_whole place ready (take n words ++ loaded e ∷ []) ≡ true = ap (λ v. is_whole place ready (take n words ++ v ∷ [])) word_is ∙ (whole_is ∙ eq-eqb (n + 1) (blocks * place.stride) all) in
        let front : take n words ++ loaded e ∷ [] ≡ take (blocks * place.stride) (slice_set words n w) = ap (λ v. take n words ++ v ∷ []) word_is ∙ (read_front words n w inside ∙ ap (λ k. take k (slice_set words n w)) all) in
        let span_is : reach place ready (slice_index (take n words ++ loaded e ∷ []) 0) ≡ blocks = ap (λ v. reach place ready (slice_index (take n words ++ v ∷ []) 0)) word_is ∙ reach_is in
        record {
          may = may;
          inside = here;
          side = rw test (ap (λ b. record { next = next + b; ready = ready - b; register = register; words = [] }) (sym span_is));
          says = rw test (ap (λ ws. Some (Took ws)) (sym front));
          looked = λ is. absurd cc;
          counted = λ k is. absurd cc;
          behind = λ entry is. subst (IsClearBehind place) (same_entry (record { blocks = blocks; words = slice_set words n w }) entry is) (λ k past. behind_more k (omega (arith, all, past)));
          task = refl;
          fewer = omega (arith, short, inside, full);
          place = refl;
        }

    -- the same of a device as its caller sees it
    pub turn_more : (d : DeviceView) → old ≡ d → n + 1 ≢ blocks * place.stride → DeviceTurn d (record { place = place; side = record { next = next; ready = ready; register = register; words = take (n + 1) (slice_set words n w) }; task = Some Read }) e More
    turn_more d same part = subst (λ (v : DeviceView). DeviceTurn v (record { place = place; side = record { next = next; ready = ready; register = register; words = take (n + 1) (slice_set words n w) }; task = Some Read }) e More) same (kept_more part)

    pub turn_whole : (d : DeviceView) → old ≡ d → n + 1 ≡ blocks * place.stride → DeviceTurn d (record { place = place; side = record { next = next + blocks; ready = ready - blocks; register = register; words = [] }; task = None }) e (Done (answers.Read (record { blocks = blocks; words = slice_set words n w })))
    turn_whole d same all = subst (λ (v : DeviceView). DeviceTurn v (record { place = place; side = record { next = next + blocks; ready = ready - blocks; register = register; words = [] }; task = None }) e (Done (answers.Read (record { blocks = blocks; words = slice_set words n w })))) same (kept_whole all)
