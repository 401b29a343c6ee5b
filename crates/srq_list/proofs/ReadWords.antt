-- The words that a device has read of an entry, and one more.
use Rattle.std.proofs.Common.{◌≡◌, ℕ, ◌+◌, ◌-◌, ◌<◌, suc, refl, ap, sym, ◌∙◌, subst, arith, eqb, true, false, List, [], ◌∷◌, ◌++◌, length, take, replicate, set, length-append, append_assoc}
use Rattle.std.specs.Prelude.{slice_set}
use Rattle.std.proofs.Math.Seq.{set-append_seam}
use Rattle.std.proofs.lemmas.List.{length-take-le, take_more_set}
use Rattle.std.proofs.lemmas.Bool.{eq-eqb}
use Rattle.bus_core.specs.declared.operation.BusEntry.{BusEntry}
use Rattle.bus_core.specs.declared.turn.Step.TheVariants.{Done}
use Rattle.bus_core.specs.Operation.{IsLoad, loaded}
use Rattle.srq_list.specs.declared.place.SrqPlace.{SrqPlace}
use Rattle.srq_list.specs.declared.device.SrqTaken.TheVariants as answers
use Rattle.srq_list.specs.Place.{IsPlace, entry_words, entry_at, touches}
use Rattle.srq_list.specs.Device.{Asking, Reading}
use Rattle.srq_list.specs.DeviceView.{DeviceView, DeviceTurn, padded}
use Rattle.srq_list.specs.DeviceInside.{IsReading}

module _ (words : List ℕ) (n w : ℕ) (full : length words ≡ 16) (few : n < 16) (rest : words ≡ padded (take n words)) where
  abbrev front : List ℕ
  front = take n words

  short : length front ≡ n
  short = length-take-le n words (omega (arith, full, few))

  zeros : replicate {A = ℕ} (16 - length front) 0 ≡ 0 ∷ replicate (15 - n) 0
  zeros = ap (λ k. replicate {A = ℕ} k 0) (let e : 16 - length front ≡ suc (15 - n) = omega (arith, short, few) in e)

  fewer_zeros : replicate {A = ℕ} (15 - n) 0 ≡ replicate (16 - length (front ++ w ∷ [])) 0
  fewer_zeros = ap (λ k. replicate {A = ℕ} k 0) (omega (arith, length-append front (w ∷ []), short, few))

  pub padded_set : slice_set words n w ≡ padded (front ++ w ∷ [])
  padded_set =
      ap (λ ws. set ws n w) (rest ∙ ap (λ ws. front ++ ws) zeros) ∙ (ap (λ k. set (front ++ 0 ∷ replicate (15 - n) 0) k w) (sym short)
      ∙ (set-append_seam front 0 (replicate (15 - n) 0) w ∙ (sym (append_assoc front (w ∷ []) (replicate (15 - n) 0)) ∙ ap (λ ws. (front ++ w ∷ []) ++ ws) fewer_zeros)))

  pub read_front : front ++ w ∷ [] ≡ take (n + 1) (slice_set words n w)
  read_front = sym (take_more_set words n w (omega (arith, full, few)))

  pub padded_more : slice_set words n w ≡ padded (take (n + 1) (slice_set words n w))
  padded_more = padded_set ∙ ap padded read_front

  pub long : length (front ++ w ∷ []) ≡ n + 1
  long = omega (arith, length-append front (w ∷ []), short)

-- a turn of a device that reads the last word of an entry
module _ (place : SrqPlace) (start taken slot next seen n w : ℕ) (words : List ℕ)
    (ok : IsPlace place) (full : length words ≡ 16) (reads : IsReading place taken n words) where
  abbrev old : DeviceView
  old = record { place = place; start = start; side = record { taken = taken; slot = slot; progress = Reading next (take n words) }; busy = true; seen = seen }

  abbrev new : DeviceView
  new = record { place = place; start = start; side = record { taken = taken + 1; slot = next; progress = Asking }; busy = false; seen = seen }

  few : n < 16
  few = omega (arith, reads.few, ok.few_words)

  module _ (e : BusEntry) (load : IsLoad (entry_at place slot n) e) (here : touches place e.addr ≡ true) (word_is : loaded e ≡ w) (all : n + 1 ≡ entry_words place) where
    is_all : eqb (length (take n words ++ loaded e ∷ [])) (entry_words place) ≡ true
    is_all = eq-eqb (length (take n words ++ loaded e ∷ [])) (entry_words place) (ap (λ v. length (take n words ++ v ∷ [])) word_is ∙ (long words n w full few reads.rest ∙ all))

    whole : DeviceTurn old new e (Done (answers.Taken slot (slice_set words n w)))
    whole = record {
      may = subst (λ k. IsLoad (entry_at place slot k) e) (sym (length-take-le n words (omega (arith, full, few)))) load;
      inside = here;
      side = rw is_all refl;
      answer_is = rw is_all (ap (λ ws. Done (answers.Taken slot ws)) (padded_set words n w full few reads.rest ∙ ap (λ v. padded (take n words ++ v ∷ [])) (sym word_is)));
      busy = refl;
      fewer = omega (arith, length-take-le n words (omega (arith, full, few)), few);
      seen = refl;
      place = refl;
      start = refl;
    }

    -- the same of a device as its caller sees it
    pub turn_whole : (d : DeviceView) → old ≡ d → DeviceTurn d new e (Done (answers.Taken slot (slice_set words n w)))
    turn_whole d same = subst (λ (v : DeviceView). DeviceTurn v new e (Done (answers.Taken slot (slice_set words n w)))) same whole
