-- The first words of an entry, with one more.
use Rattle.std.proofs.Common.{◌≡◌, ℕ, ◌+◌, ◌*◌, ◌%◌, ◌^◌, ◌<◌, ◌≤◌, zero, suc, inl, inr, refl, ap, sym, ◌∙◌, subst, arith, cond, leb, List, [], ◌∷◌, ◌++◌, length, get_or, take, length-append}
use Rattle.std.specs.Prelude.{slice_index, slice_set, replicate}
use Rattle.std.proofs.Math.Nat.{mul-le-mul_right}
use Rattle.std.proofs.lemmas.Bool.{cond_both, cases_Bool, cases_lt}
use Rattle.counted_ring.specs.declared.place.WqPlace.{WqPlace}
use Rattle.counted_ring.specs.Place.{IsPlace, is_send, unit_blocks, span, most}
use Rattle.std.proofs.lemmas.List.{take_more, take_more_set, length-take-le, get_or-take, get_or-replicate, get_or_past, length-replicate}

pub long : (words : List ℕ) (n w : ℕ) → n < length words → length (take n words ++ w ∷ []) ≡ n + 1
long words n w h = omega (arith, length-append (take n words) (w ∷ []), length-take-le n words (omega (arith, h)))

-- where the words are stored one after another
pub stored_front : (words : List ℕ) (n : ℕ) → n < length words → take n words ++ get_or words n 0 ∷ [] ≡ take (n + 1) words
stored_front words n h = sym (take_more words n 0 h)

pub stored_first : (words : List ℕ) (n : ℕ) → n < length words → slice_index (take n words ++ get_or words n 0 ∷ []) 0 ≡ slice_index words 0
stored_first words n h = ap (λ (ws : List ℕ). slice_index ws 0) (stored_front words n h) ∙ get_or-take (n + 1) words 0 0 (omega arith)

-- where they are read one after another
pub read_front : (words : List ℕ) (n w : ℕ) → n < length words → take n words ++ w ∷ [] ≡ take (n + 1) (slice_set words n w)
read_front words n w h = sym (take_more_set words n w h)

pub read_first : (words : List ℕ) (n w : ℕ) → n < length words → slice_index (take n words ++ w ∷ []) 0 ≡ slice_index (slice_set words n w) 0
read_first words n w h = ap (λ (ws : List ℕ). slice_index ws 0) (read_front words n w h) ∙ get_or-take (n + 1) (slice_set words n w) 0 0 (omega arith)

-- a word of zeros
pub zero_words : (n k : ℕ) → slice_index (replicate n 0) k ≡ 0
zero_words n k = elim (cases_lt k n) [
  | inl inside ↦ get_or-replicate n k 0 0 inside
  | inr past ↦ get_or_past (replicate n 0) k 0 (omega (arith, past, length-replicate {A = ℕ} n 0))
]

-- a word behind the first leaves the first
pub first_kept : (words : List ℕ) (n w : ℕ) → 0 < n → slice_index (slice_set words n w) 0 ≡ slice_index words 0
first_kept [] n w h = refl
first_kept (x ∷ xs) zero w h = absurd (omega (arith, h))
first_kept (x ∷ xs) (suc n) w h = refl

unit_few : (units : ℕ) → unit_blocks units ≤ 4
unit_few units =
    cond_both (leb units 4) 1 (cond (leb units 8) 2 (cond (leb units 12) 3 4)) (λ k. k ≤ 4) (λ t. omega arith)
    (λ t. cond_both (leb units 8) 2 (cond (leb units 12) 3 4) (λ k. k ≤ 4) (λ t. omega arith) (λ t. cond_both (leb units 12) 3 4 (λ k. k ≤ 4) (λ t. omega arith) (λ t. omega arith)))

pub span_few : (place : WqPlace) (first : ℕ) → span place first ≤ most place
span_few place first = elim (cases_Bool (is_send place)) [
  | inl send ↦ rw send (unit_few (first % 2 ^ 6))
  | inr receive ↦ rw receive (omega arith)
]

-- a word of an entry is one of 32
pub word_few : (place : WqPlace) (blocks first n : ℕ) → IsPlace place → blocks ≡ span place first → n < blocks * place.stride → n < 32
word_few place blocks first n ok is h = omega (arith, h, ok.few_words, mul-le-mul_right place.stride (subst (λ b. b ≤ most place) (sym is) (span_few place first)))
