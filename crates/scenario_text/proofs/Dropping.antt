-- A list without its first items.
use Rattle.std.proofs.Common.{◌≡◌, ℕ, zero, suc, ◌+◌, List, [], ◌∷◌, Option, Some, None, MatchOption, is_some, Bool, not, ◌≤◌, ◌<◌, ◌==◌, true, false, true≢false, drop, length, length-drop, slice_index_or, refl, sym, ap, ◌∙◌, subst, arith}
use Rattle.std.specs.Option.{unwrap_or, is_none}
use Rattle.std.proofs.lemmas.Bool.Decides.{nat_tests}

pub drop_rest : {A : Type 0} (xs : List A) (i : ℕ) → drop 1 (drop i xs) ≡ drop (i + 1) xs
drop_rest {A} xs i = subst (λ (n : ℕ). drop 1 (drop i xs) ≡ drop n xs) {x = suc i} (omega arith) (by xs i)
  where
    by : (xs : List A) (i : ℕ) → drop 1 (drop i xs) ≡ drop (suc i) xs
    by [] zero = refl
    by [] (suc i) = refl
    by (x ∷ xs) zero = refl
    by (x ∷ xs) (suc i) = by xs i

pub first_dropped : {A : Type 0} (xs : List A) (i : ℕ) (d : A) → slice_index_or (drop i xs) 0 d ≡ slice_index_or xs i d
first_dropped [] zero d = refl
first_dropped [] (suc i) d = refl
first_dropped (x ∷ xs) zero d = refl
first_dropped (x ∷ xs) (suc i) d = first_dropped xs i d

-- one more is taken, if there is one
pub next_dropped : {A B : Type 0} (value : B → A) (xs before after : List A) (i : ℕ) (taken : Option B) → before ≡ drop i xs
    → MatchOption taken ((before ≡ []) × (after ≡ [])) (λ part. before ≡ value part ∷ after) → after ≡ drop (i + 1) xs
next_dropped {A} value xs before after i None is (none, done) = done ∙ ap (λ (ys : List A). drop 1 ys) (sym none ∙ is) ∙ drop_rest xs i
next_dropped {A} value xs before after i (Some part) is next = ap (λ (ys : List A). drop 1 ys) (sym next ∙ is) ∙ drop_rest xs i

-- what is taken next is the item at the place
pub taken_at : {A B : Type 0} (value : B → A) (xs before after : List A) (i : ℕ) (taken : Option B) (none : B) → before ≡ drop i xs
    → MatchOption taken ((before ≡ []) × (after ≡ [])) (λ part. before ≡ value part ∷ after) → value (unwrap_or taken none) ≡ slice_index_or xs i (value none)
taken_at {A} value xs before after i None none is (empty, done) = ap (λ (ys : List A). slice_index_or ys 0 (value none)) (sym empty ∙ is) ∙ first_dropped xs i (value none)
taken_at {A} value xs before after i (Some part) none is next = ap (λ (ys : List A). slice_index_or ys 0 (value none)) (sym next ∙ is) ∙ first_dropped xs i (value none)

-- so many items were there, and these are left
pub record Passed {A : Type 0} (xs : List A) (n : ℕ) (left : List A) : Type 0 where
  pub dropped : left ≡ drop n xs
  pub there : n ≤ length xs

pub passed_none : {A : Type 0} (xs left : List A) → left ≡ xs → Passed xs 0 left
passed_none xs left is = record { dropped = is; there = omega arith }

pub length_left : {A : Type 0} (xs left : List A) (n : ℕ) → Passed xs n left → length left + n ≡ length xs
length_left {A} xs left n p = omega (arith, ap (λ (ys : List A). length ys) p.dropped, length-drop n xs, p.there)

-- one more was there
pub passed_next : {A B : Type 0} (value : B → A) (xs before after : List A) (n : ℕ) (taken : Option B) → Passed xs n before
    → MatchOption taken ((before ≡ []) × (after ≡ [])) (λ part. before ≡ value part ∷ after) → is_none taken ≡ false → Passed xs (n + 1) after
passed_next value xs before after n None p m some = absurd (true≢false some)
passed_next {A} value xs before after n (Some part) p m some =
    let long : length before ≡ length after + 1 = omega (arith, ap (λ (ys : List A). length ys) m) in
    record { dropped = next_dropped value xs before after n (Some part) p.dropped m; there = omega (arith, length_left xs before n p, long) }

-- no more was there
pub passed_end : {A B : Type 0} (value : B → A) (xs before after : List A) (n : ℕ) (taken : Option B) → Passed xs n before
    → MatchOption taken ((before ≡ []) × (after ≡ [])) (λ part. before ≡ value part ∷ after) → is_none taken ≡ (length xs == n)
passed_end {A} value xs before after n None p m =
    let e : length before ≡ 0 = ap (λ (ys : List A). length ys) m.0 in
    grind (arith, nat_tests, length_left xs before n p)
passed_end {A} value xs before after n (Some part) p m =
    let long : length before ≡ length after + 1 = omega (arith, ap (λ (ys : List A). length ys) m) in
    grind (arith, nat_tests, length_left xs before n p)

-- there are fewer than asked for
pub passed_short : {A B : Type 0} (value : B → A) (xs before after : List A) (n number : ℕ) (taken : Option B) → Passed xs n before
    → MatchOption taken ((before ≡ []) × (after ≡ [])) (λ part. before ≡ value part ∷ after) → is_none taken ≡ true → n < number → false ≡ (length xs == number)
passed_short {A} value xs before after n number None p m none low =
    let e : length before ≡ 0 = ap (λ (ys : List A). length ys) m.0 in
    grind (arith, nat_tests, length_left xs before n p)
passed_short value xs before after n number (Some part) p m none low = absurd (true≢false (sym none))

-- what `is_none` tells
pub told_none : {B : Type 0} (taken : Option B) (b : Bool) → is_some taken ≡ not b → is_none taken ≡ b
told_none taken true h = ap not h
told_none taken false h = ap not h
