-- Numbers of a range that pass a test, each at its place.
use Rattle.std.proofs.Common.{◌≡◌, ◌≢◌, ℕ, zero, suc, ◌+◌, ◌≤◌, ◌<◌, ◌==◌, arith, refl, sym, ap, ◌∙◌, subst, true, false, Bool, cond, List, [], ◌∷◌, length, filter, get_or, slice_get, position, nat_lt, Option, None, Some, is_some, inl, inr}
use Rattle.std.specs.List.{range_with_len, position_or_len}
use Rattle.std.proofs.lemmas.Bool.{cases_Bool, eqb-true, eqb-false, false≢true}
use Rattle.std.proofs.lemmas.List.Sums.{position_or_len_is}
use Rattle.std.proofs.lemmas.Option.{slice_get_within, get_or_from_slice_get}
use Rattle.std.proofs.lemmas.Bool.Decides.{nat_tests}

none_at : (k n : ℕ) → slice_get {X = ℕ} [] k ≡ Some n → ⊥
none_at zero n is = false≢true (ap is_some is)
none_at (suc k) n is = false≢true (ap is_some is)

abbrev number_in : ℕ → Option ℕ → ℕ
number_in first None = first
number_in first (Some x) = x

least_there : (least n : ℕ) (rest : List ℕ) → ((k : ℕ) → slice_get rest k ≡ Some n → least + 1 ≤ n) → (k : ℕ) → slice_get (least ∷ rest) k ≡ Some n → least ≤ n
least_there least n rest more zero is = let e : least ≡ n = ap (number_in least) is in omega (arith, e)
least_there least n rest more (suc k) is = let high = more k is in omega (arith, high)

most_there : (least count n : ℕ) (rest : List ℕ) → ((k : ℕ) → slice_get rest k ≡ Some n → n < least + 1 + count) → (k : ℕ) → slice_get (least ∷ rest) k ≡ Some n → n < least + suc count
most_there least count n rest more zero is = let e : least ≡ n = ap (number_in least) is in omega (arith, e)
most_there least count n rest more (suc k) is = let high = more k is in omega (arith, high)

climbs_there : (least n : ℕ) (rest : List ℕ) → ((i : ℕ) → slice_get rest i ≡ Some n → least + 1 ≤ n) → ((k i : ℕ) → k < i → slice_get rest i ≡ Some n → get_or rest k 0 < n)
    → (k i : ℕ) → k < i → slice_get (least ∷ rest) i ≡ Some n → get_or (least ∷ rest) k 0 < n
climbs_there least n rest more climbs zero zero less is = absurd (omega (arith, less))
climbs_there least n rest more climbs zero (suc i) less is = let high = more i is in omega (arith, high)
climbs_there least n rest more climbs (suc k) zero less is = absurd (omega (arith, less))
climbs_there least n rest more climbs (suc k) (suc i) less is = climbs k i (omega (arith, less)) is

module _ (test : ℕ → Bool) where
  pub from_least : (least count k n : ℕ) → slice_get (filter test (range_with_len least count)) k ≡ Some n → least ≤ n
  from_least least zero k n found = absurd (none_at k n found)
  from_least least (suc count) k n found = elim (cases_Bool (test least)) [
    | inl passes ↦ least_there least n (filter test (range_with_len (least + 1) count)) (λ j is. from_least (least + 1) count j n is) k
        (subst (λ (b : Bool). slice_get (cond b (least ∷ filter test (range_with_len (least + 1) count)) (filter test (range_with_len (least + 1) count))) k ≡ Some n) passes found)
    | inr fails ↦ let more = from_least (least + 1) count k n (subst (λ (b : Bool). slice_get (cond b (least ∷ filter test (range_with_len (least + 1) count)) (filter test (range_with_len (least + 1) count))) k ≡ Some n) fails found) in omega (arith, more)
  ]

  pub below_most : (least count k n : ℕ) → slice_get (filter test (range_with_len least count)) k ≡ Some n → n < least + count
  below_most least zero k n found = absurd (none_at k n found)
  below_most least (suc count) k n found = elim (cases_Bool (test least)) [
    | inl passes ↦ most_there least count n (filter test (range_with_len (least + 1) count)) (λ j is. below_most (least + 1) count j n is) k
        (subst (λ (b : Bool). slice_get (cond b (least ∷ filter test (range_with_len (least + 1) count)) (filter test (range_with_len (least + 1) count))) k ≡ Some n) passes found)
    | inr fails ↦ let more = below_most (least + 1) count k n (subst (λ (b : Bool). slice_get (cond b (least ∷ filter test (range_with_len (least + 1) count)) (filter test (range_with_len (least + 1) count))) k ≡ Some n) fails found) in omega (arith, more)
  ]

  -- the numbers ascend
  climbs : (least count n k i : ℕ) → k < i → slice_get (filter test (range_with_len least count)) i ≡ Some n → get_or (filter test (range_with_len least count)) k 0 < n
  climbs least zero n k i before found = absurd (none_at i n found)
  climbs least (suc count) n k i before found = elim (cases_Bool (test least)) [
    | inl passes ↦ rw passes (climbs_there least n (filter test (range_with_len (least + 1) count)) (λ j is. from_least (least + 1) count j n is) (climbs (least + 1) count n) k i before
        (subst (λ (b : Bool). slice_get (cond b (least ∷ filter test (range_with_len (least + 1) count)) (filter test (range_with_len (least + 1) count))) i ≡ Some n) passes found))
    | inr fails ↦ rw fails (climbs (least + 1) count n k i before (subst (λ (b : Bool). slice_get (cond b (least ∷ filter test (range_with_len (least + 1) count)) (filter test (range_with_len (least + 1) count))) i ≡ Some n) fails found))
  ]

  -- each is at its place
  pub position_is : (least count i n : ℕ) → slice_get (filter test (range_with_len least count)) i ≡ Some n → position (λ (m : ℕ). m == n) (filter test (range_with_len least count)) ≡ Some i
  position_is least count i n found =
      let ns : List ℕ = filter test (range_with_len least count) in
      let inside : i < length ns = slice_get_within ns i n found in
      let first : position_or_len (λ (m : ℕ). m == n) ns ≡ i = position_or_len_is (λ (m : ℕ). m == n) ns i 0 (omega (arith, inside))
      (λ k before. let less = climbs least count n k i before found in grind (arith, less))
      (λ within. let there = get_or_from_slice_get ns i n 0 found in grind (arith, there)) in
      let low : nat_lt i (length ns) ≡ true = grind (arith, inside) in
      ap (λ (k : ℕ). cond (nat_lt k (length ns)) (Some k) None) first ∙ ap (λ (b : Bool). cond b (Some i) None) low

  -- it passes the test
  pub passes : (least count k n : ℕ) → slice_get (filter test (range_with_len least count)) k ≡ Some n → test n ≡ true
  passes least zero k n found = absurd (none_at k n found)
  passes least (suc count) k n found = by (λ j is. passes (least + 1) count j n is) (test least) refl k found
    where
      by : ((j : ℕ) → slice_get (filter test (range_with_len (least + 1) count)) j ≡ Some n → test n ≡ true) → (b : Bool) → test least ≡ b → (j : ℕ) → slice_get (cond b (least ∷ filter test (range_with_len (least + 1) count)) (filter test (range_with_len (least + 1) count))) j ≡ Some n → test n ≡ true
      by rest true good zero is = subst (λ (m : ℕ). test m ≡ true) (ap (number_in least) is) good
      by rest true good (suc j) is = rest j is
      by rest false fails j is = rest j is

  -- and whatever passes is there
  pub is_there : (least count n : ℕ) → least ≤ n → n < least + count → test n ≡ true → (k : ℕ) × (slice_get (filter test (range_with_len least count)) k ≡ Some n)
  is_there least zero n low high good = absurd (omega (arith, low, high))
  is_there least (suc count) n low high good = by (λ apart. is_there (least + 1) count n (omega (arith, low, apart)) (omega (arith, high)) good) (least == n) refl (test least) refl
    where
      by : (least ≢ n → (k : ℕ) × (slice_get (filter test (range_with_len (least + 1) count)) k ≡ Some n)) → (same : Bool) → (least == n) ≡ same → (b : Bool) → test least ≡ b → (k : ℕ) × (slice_get (cond b (least ∷ filter test (range_with_len (least + 1) count)) (filter test (range_with_len (least + 1) count))) k ≡ Some n)
      by rest true e true t = (0, ap Some (eqb-true least n e))
      by rest true e false t = absurd (false≢true (sym t ∙ (ap test (eqb-true least n e) ∙ good)))
      by rest false e true t = let more = rest (eqb-false least n e) in (suc more.0, more.1)
      by rest false e false t = rest (eqb-false least n e)
