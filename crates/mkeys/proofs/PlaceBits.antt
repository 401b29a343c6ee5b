-- The free places as bits: which is the lowest, and what a bit more or less makes of them.
use Rattle.std.proofs.Common.{◌≡◌, ◌≢◌, ℕ, ◌+◌, ◌-◌, ◌*◌, ◌/◌, ◌%◌, ◌^◌, ◌<◌, inl, inr, refl, ap, sym, ◌∙◌, arith, Bool, true, false, eqb, cond, List, length, get_or, set, bit_and, bit_or, w64, replicate}
use Rattle.std.proofs.lemmas.List.{get_or-set_same, get_or-set_other, get_or-replicate}
use Rattle.std.proofs.lemmas.Grind.{get_or-set_at}
use Rattle.std.proofs.lemmas.Bool.{cases_lt}
use Rattle.std.proofs.lemmas.Bool.Decides.{nat_tests}
use Rattle.std.specs.Int.{bit_at, bit_not, trailing_zeros}
use Rattle.std.proofs.lemmas.Nat.Bits.{bit_at-zero, bit_at-trailing_zeros, bit_at_ones, bit_at_set_same, bit_at_set_other, bit_at_clear_same, bit_at_clear_other}
use Rattle.mkeys.specs.declared.table.TheConstants.{PLACES}
use Rattle.mkeys.specs.FreePlaces.{is_free, IsLowest, NoneFree, Turns, IsSummary}

-- a word with no bit in the summary is 0, and one with a bit is not
is_zero : (x bit : ℕ) → bit ≡ cond (eqb x 0) 0 1 → bit ≡ 0 → x ≡ 0
is_zero x bit e z = grind (arith, nat_tests)

is_above : (x bit : ℕ) → bit ≡ cond (eqb x 0) 0 1 → bit ≡ 1 → 0 < x
is_above x bit e z = grind (arith, nat_tests)

-- the bit of a place, by its word and its place there
free_by : (words : List ℕ) (place word bit value : ℕ) → place / 64 ≡ word → place % 64 ≡ bit → bit_at (get_or words word 0) bit ≡ value → is_free words place ≡ eqb value 1
free_by words place word bit value p q r = ap (λ v. eqb v 1) ((λ i. bit_at (get_or words (p i) 0) (q i)) ∙ r)

-- no bit is in a word that is 0
no_bit : (words : List ℕ) (word bit : ℕ) → get_or words word 0 ≡ 0 → bit_at (get_or words word 0) bit ≡ 0
no_bit words word bit e = ap (λ x. bit_at x bit) e ∙ bit_at-zero bit

pub none_is_free : (words : List ℕ) (summary : ℕ) → IsSummary words summary → summary ≡ 0 → NoneFree words
none_is_free words summary is zero place h =
    let bit : bit_at summary (place / 64) ≡ 0 = ap (λ x. bit_at x (place / 64)) zero ∙ bit_at-zero (place / 64) in
    let empty = is_zero _ _ (is (place / 64) (omega arith)) bit in
    free_by words place (place / 64) (place % 64) 0 refl refl (no_bit words (place / 64) (place % 64) empty)

-- the lowest bit of the lowest word that has one
lowest_by : (words : List ℕ) (word bit : ℕ) → word < 64 → bit < 64 → bit_at (get_or words word 0) bit ≡ 1 → ((i : ℕ) → i < bit → bit_at (get_or words word 0) i ≡ 0) → ((w : ℕ) → w < word → get_or words w 0 ≡ 0) → IsLowest words (64 * word + bit)
lowest_by words word bit in_words in_word there below before = record {
  inside = omega arith;
  free = free_by words (64 * word + bit) word bit 1 (omega arith) (omega arith) there;
  lower = λ other h. elim (cases_lt (other / 64) word) [
    | inl earlier ↦ free_by words other (other / 64) (other % 64) 0 refl refl (no_bit words (other / 64) (other % 64) (before (other / 64) earlier))
    | inr late ↦ free_by words other word (other % 64) 0 (omega arith) refl (below (other % 64) (omega arith))
  ];
}

pub lowest_is_free : (words : List ℕ) (summary : ℕ) → IsSummary words summary → summary ≢ 0 → summary < 2 ^ 64 → get_or words (trailing_zeros w64 summary) 0 < 2 ^ 64 → IsLowest words (64 * trailing_zeros w64 summary + trailing_zeros w64 (get_or words (trailing_zeros w64 summary) 0))
lowest_is_free words summary is some fits word_fits =
    let word = trailing_zeros w64 summary in
    let top = bit_at-trailing_zeros w64 summary (omega arith) fits in
    let above = is_above _ _ (is word top.0) top.1 in
    let low = bit_at-trailing_zeros w64 (get_or words word 0) above word_fits in
    lowest_by words word (trailing_zeros w64 (get_or words word 0)) top.0 low.0 low.1 low.2
    (λ w h. is_zero _ _ (is w (omega (arith, top.0))) (top.2 w h))

-- one word is another: the places of its other bits, and all those of other words, are as before
turns_by : (words : List ℕ) (place word : ℕ) (free : Bool) → length words ≡ 64 → place < PLACES → eqb (bit_at word (place % 64)) 1 ≡ free → ((i : ℕ) → i < 64 → i ≢ place % 64 → bit_at word i ≡ bit_at (get_or words (place / 64) 0) i) → Turns words (set words (place / 64) word) place free
turns_by words place word free count inside there others = record {
  there = ap (λ x. eqb (bit_at x (place % 64)) 1) (get_or-set_same words (place / 64) word 0 (omega arith)) ∙ there;
  others = λ other differs. elim (cases_lt (other / 64) (place / 64)) [
    | inl below ↦ ap (λ x. eqb (bit_at x (other % 64)) 1) (get_or-set_other words (place / 64) (other / 64) word 0 (λ e. absurd (omega arith)))
    | inr from ↦ elim (cases_lt (place / 64) (other / 64)) [
      | inl above ↦ ap (λ x. eqb (bit_at x (other % 64)) 1) (get_or-set_other words (place / 64) (other / 64) word 0 (λ e. absurd (omega arith)))
      | inr upto ↦
          let same : other / 64 ≡ place / 64 = omega arith in
          let same_bit = others (other % 64) (omega arith) (λ e. differs (omega arith)) in
          ap (λ x. eqb (bit_at x (other % 64)) 1) (get_or-set_at words (place / 64) (other / 64) word 0 same (omega arith))
          ∙ ap (λ x. eqb x 1) (same_bit ∙ (λ i. bit_at (get_or words (sym same i) 0) (other % 64)))
    ]
  ];
}

pub turns_free : (words : List ℕ) (place : ℕ) → length words ≡ 64 → place < PLACES → Turns words (set words (place / 64) (bit_or (get_or words (place / 64) 0) (1 * 2 ^ (place % 64) % 2 ^ 64))) place true
turns_free words place count inside =
    let old = get_or words (place / 64) 0 in
    turns_by words place _ true count inside
    (ap (λ x. eqb x 1) (bit_at_set_same w64 old (place % 64) (omega arith)))
    (λ i fits differs. bit_at_set_other w64 old (place % 64) (omega arith) i differs)

pub turns_taken : (words : List ℕ) (place : ℕ) → length words ≡ 64 → place < PLACES → Turns words (set words (place / 64) (bit_and (get_or words (place / 64) 0) (bit_not w64 (1 * 2 ^ (place % 64) % 2 ^ 64)))) place false
turns_taken words place count inside =
    let old = get_or words (place / 64) 0 in
    turns_by words place _ false count inside
    (ap (λ x. eqb x 1) (bit_at_clear_same w64 old (place % 64) (omega arith)))
    (λ i fits differs. bit_at_clear_other w64 old (place % 64) (omega arith) i fits differs)

-- one word is another, and the summary follows it
summary_by : (words : List ℕ) (summary later word value : ℕ) → length words ≡ 64 → word < 64 → IsSummary words summary → bit_at later word ≡ cond (eqb value 0) 0 1 → ((i : ℕ) → i < 64 → i ≢ word → bit_at later i ≡ bit_at summary i) → IsSummary (set words word value) later
summary_by words summary later word value count inside is there others other h =
    elim (cases_lt other word) [
      | inl below ↦ others other h (λ e. absurd (omega arith)) ∙ (is other h ∙ ap (λ x. cond (eqb x 0) 0 1) (sym (get_or-set_other words word other value 0 (λ e. absurd (omega arith)))))
      | inr from ↦ elim (cases_lt word other) [
        | inl above ↦ others other h (λ e. absurd (omega arith)) ∙ (is other h ∙ ap (λ x. cond (eqb x 0) 0 1) (sym (get_or-set_other words word other value 0 (λ e. absurd (omega arith)))))
        | inr upto ↦
            let same : other ≡ word = omega arith in
            ap (bit_at later) same ∙ (there ∙ ap (λ x. cond (eqb x 0) 0 1) (sym (get_or-set_at words word other value 0 same (omega arith))))
      ]
    ]

-- a word with a bit is not 0
not_zero : (x bit : ℕ) → bit_at x bit ≡ 1 → x ≢ 0
not_zero x bit has e = let none : bit_at x bit ≡ 0 = ap (λ y. bit_at y bit) e ∙ bit_at-zero bit in omega arith

one_of : (x bit : ℕ) → x ≢ 0 → bit ≡ 1 → bit ≡ cond (eqb x 0) 0 1
one_of x bit some e = grind (arith, nat_tests)

zero_for : (x bit : ℕ) → x ≡ 0 → bit ≡ 0 → bit ≡ cond (eqb x 0) 0 1
zero_for x bit none e = grind (arith, nat_tests)

pub summary_free : (words : List ℕ) (summary place : ℕ) → length words ≡ 64 → place < PLACES → IsSummary words summary → IsSummary (set words (place / 64) (bit_or (get_or words (place / 64) 0) (1 * 2 ^ (place % 64) % 2 ^ 64))) (bit_or summary (1 * 2 ^ (place / 64) % 2 ^ 64))
summary_free words summary place count inside is =
    let value = bit_or (get_or words (place / 64) 0) (1 * 2 ^ (place % 64) % 2 ^ 64) in
    let some = not_zero value (place % 64) (bit_at_set_same w64 (get_or words (place / 64) 0) (place % 64) (omega arith)) in
    summary_by words summary _ (place / 64) value count (omega arith) is
    (one_of value _ some (bit_at_set_same w64 summary (place / 64) (omega arith)))
    (λ i h differs. bit_at_set_other w64 summary (place / 64) (omega arith) i differs)

pub summary_taken : (words : List ℕ) (summary place value : ℕ) → length words ≡ 64 → place < PLACES → value ≡ 0 → IsSummary words summary → IsSummary (set words (place / 64) value) (bit_and summary (bit_not w64 (1 * 2 ^ (place / 64) % 2 ^ 64)))
summary_taken words summary place value count inside empty is =
    summary_by words summary _ (place / 64) value count (omega arith) is
    (zero_for value _ empty (bit_at_clear_same w64 summary (place / 64) (omega arith)))
    (λ i h differs. bit_at_clear_other w64 summary (place / 64) (omega arith) i h differs)

-- 64 words that are all ones
abbrev pub ones : List ℕ
ones = replicate 64 (2 ^ 64 - 1)

ones_at : (word : ℕ) → word < 64 → get_or ones word 0 ≡ 2 ^ 64 - 1
ones_at word h = get_or-replicate 64 word (2 ^ 64 - 1) 0 h

pub ones_free : (place : ℕ) → place < PLACES → is_free ones place ≡ true
ones_free place h =
    free_by ones place (place / 64) (place % 64) 1 refl refl
    (ap (λ x. bit_at x (place % 64)) (ones_at (place / 64) (omega arith)) ∙ bit_at_ones 64 (place % 64) (omega arith))

pub ones_summary : IsSummary ones (2 ^ 64 - 1)
ones_summary word h = bit_at_ones 64 word h ∙ ap (λ x. cond (eqb x 0) 0 1) (sym (ones_at word h))
