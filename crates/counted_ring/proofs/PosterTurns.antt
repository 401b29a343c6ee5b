-- A turn of a poster that stores a word of an entry.
use Rattle.std.proofs.Common.{◌≡◌, ◌≢◌, ℕ, ◌+◌, ◌*◌, ◌<◌, refl, ap, sym, ◌∙◌, subst, arith, true, eqb, [], ◌∷◌, ◌++◌, length, get_or, take, Some}
use Rattle.std.specs.Prelude.{slice_index}
use Rattle.std.proofs.lemmas.Bool.{eq-eqb, ne_eqb}
use Rattle.std.proofs.lemmas.List.{length-take-le}
use Rattle.bus_core.specs.declared.operation.BusEntry.{BusEntry}
use Rattle.bus_core.specs.declared.turn.Step.TheVariants.{More}
use Rattle.bus_core.specs.Operation.{IsStore, stored, carried}
use Rattle.work_entries.specs.declared.units.SendWords.{SendWords}
use Rattle.counted_ring.specs.declared.place.WqPlace.{WqPlace}
use Rattle.counted_ring.specs.Place.{touches, word_at, span, entry_words, all_words}
use Rattle.counted_ring.specs.Poster.{Poster, Stage, Storing, Naming, MayPost, stage_with}
use Rattle.counted_ring.specs.PosterView.{PosterView, PosterTurn, Posting}
use Rattle.counted_ring.specs.Rung.{Rung}
use Rattle.counted_ring.proofs.Parts.{long, stored_front, stored_first}

module _ (place : WqPlace) (count index first id seen n : ℕ) (rung : Rung) (entry : SendWords)
    (full : length entry.words ≡ 32) (few : n < 32) (spans : entry.blocks ≡ span place (slice_index entry.words 0)) where
  abbrev at_stage : Stage → PosterView
  at_stage stage = record { place = place; side = record { count = count; index = index; first = first; seen = seen; stage = stage }; rung = rung; task = Some (Posting (entry_words place entry) id) }

  inside : n < length entry.words
  inside = omega (arith, full, few)

  abbrev value : ℕ
  value = get_or entry.words n 0

  whole_is : eqb (length (take n entry.words ++ value ∷ [])) (all_words place (take n entry.words ++ value ∷ [])) ≡ eqb (n + 1) (entry.blocks * place.stride)
  whole_is = ap (λ k. eqb k (all_words place (take n entry.words ++ value ∷ []))) (long entry.words n value inside)
      ∙ (ap (λ f. eqb (n + 1) (span place f * place.stride)) (stored_first entry.words n inside) ∙ ap (λ b. eqb (n + 1) (b * place.stride)) (sym spans))

  module _ (e : BusEntry) (store : IsStore (word_at place index n) value e) (here : touches place e.addr ≡ true) where
    value_is : stored e ≡ value
    value_is = ap carried store.op

    short : length (take n entry.words) ≡ n
    short = length-take-le n entry.words (omega (arith, inside))

    may : MayPost place (at_stage (Storing (take n entry.words))).side e
    may = subst (λ k. IsStore (word_at place index k) (stored e) e) (sym short) (subst (λ v. IsStore (word_at place index n) v e) (sym value_is) store)

    kept_more : n + 1 ≢ entry.blocks * place.stride → PosterTurn (at_stage (Storing (take n entry.words))) (at_stage (Storing (take (n + 1) entry.words))) e More
    kept_more part =
        let stage : stage_with place (take n entry.words ++ stored e ∷ []) ≡ Storing (take (n + 1) entry.words) =
        ap (λ v. stage_with place (take n entry.words ++ v ∷ [])) value_is ∙ rw (whole_is ∙ ne_eqb (n + 1) (entry.blocks * place.stride) part) (ap (λ ws. Storing ws) (stored_front entry.words n inside)) in
        record {
          may = may;
          inside = here;
          side = ap (λ (s : Stage). record { count = count; index = index; first = first; seen = seen; stage = s }) (sym stage);
          says = refl;
          task = refl;
          done = refl;
          rung = refl;
          fewer = omega (arith, short, length-take-le (n + 1) entry.words (omega (arith, inside)), few);
          place = refl;
        }

    kept_whole : n + 1 ≡ entry.blocks * place.stride → PosterTurn (at_stage (Storing (take n entry.words))) (at_stage (Naming (entry_words place entry))) e More
    kept_whole all =
        let stage : stage_with place (take n entry.words ++ stored e ∷ []) ≡ Naming (entry_words place entry) =
        ap (λ v. stage_with place (take n entry.words ++ v ∷ [])) value_is ∙ rw (whole_is ∙ eq-eqb (n + 1) (entry.blocks * place.stride) all) (ap (λ ws. Naming ws) (stored_front entry.words n inside ∙ ap (λ k. take k entry.words) all)) in
        record {
          may = may;
          inside = here;
          side = ap (λ (s : Stage). record { count = count; index = index; first = first; seen = seen; stage = s }) (sym stage);
          says = refl;
          task = refl;
          done = refl;
          rung = refl;
          fewer = omega (arith, short, few);
          place = refl;
        }

    -- the same of a poster as its caller sees it
    pub turn_more : (p : PosterView) → at_stage (Storing (take n entry.words)) ≡ p → n + 1 ≢ entry.blocks * place.stride → PosterTurn p (at_stage (Storing (take (n + 1) entry.words))) e More
    turn_more p same part = subst (λ (v : PosterView). PosterTurn v (at_stage (Storing (take (n + 1) entry.words))) e More) same (kept_more part)

    pub turn_whole : (p : PosterView) → at_stage (Storing (take n entry.words)) ≡ p → n + 1 ≡ entry.blocks * place.stride → PosterTurn p (at_stage (Naming (entry_words place entry))) e More
    turn_whole p same all = subst (λ (v : PosterView). PosterTurn v (at_stage (Naming (entry_words place entry))) e More) same (kept_whole all)
