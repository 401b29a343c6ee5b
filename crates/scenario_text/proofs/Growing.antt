-- Lists with one more item, and with an item changed.
use Rattle.std.proofs.Common.{◌≡◌, ◌≢◌, ℕ, zero, suc, ◌+◌, ◌-◌, ◌<◌, ◌≤◌, Bool, true, List, [], ◌∷◌, ◌++◌, length, get_or, IsTrue, Some, slice_get, unwrap_or, ◌⊎◌, inl, inr, refl, sym, ap, subst, arith}
use Rattle.std.specs.List.{list_all}
use Rattle.std.proofs.lemmas.Bool.{and_parts, and_from, cases_lt}
use Rattle.std.proofs.lemmas.Bool.Decides.{nat_tests}
use Rattle.std.proofs.lemmas.List.{length_push, get_or_append_left, get_or_push}
use Rattle.std.proofs.lemmas.Option.{same_Some, none-some}
use Rattle.verbs_types.specs.Lines.{is_among}
use Rattle.scenario_text.specs.AfterObjects.{change}
use Rattle.scenario_text.proofs.Standing.{Each}

pub among_parts : (first count n : ℕ) → IsTrue (is_among first count n) → (first ≤ n) × (n - first < count)
among_parts first count n h = (grind (arith, nat_tests), grind (arith, nat_tests))

pub among_more : (first count more n : ℕ) → count ≤ more → IsTrue (is_among first count n) → IsTrue (is_among first more n)
among_more first count more n le h = grind (arith, nat_tests)

pub all_weaker : {X : Type 0} (p q : X → Bool) → ((x : X) → IsTrue (p x) → IsTrue (q x)) → (xs : List X) → IsTrue (list_all p xs) → IsTrue (list_all q xs)
all_weaker p q weaker [] h = refl
all_weaker p q weaker (x ∷ xs) h = and_from (q x) (list_all q xs) (weaker x (and_parts (p x) (list_all p xs) h).0) (all_weaker p q weaker xs (and_parts (p x) (list_all p xs) h).1)

pub all_push : {X : Type 0} (p : X → Bool) (xs : List X) (y : X) → IsTrue (list_all p xs) → IsTrue (p y) → IsTrue (list_all p (xs ++ y ∷ []))
all_push p [] y h k = and_from (p y) true k refl
all_push p (x ∷ xs) y h k = and_from (p x) (list_all p (xs ++ y ∷ [])) (and_parts (p x) (list_all p xs) h).0 (all_push p xs y (and_parts (p x) (list_all p xs) h).1 k)

pub push_longer : {X : Type 0} (xs : List X) (y : X) → length xs ≤ length (xs ++ y ∷ [])
push_longer xs y = omega (arith, length_push xs y)

-- the number after those of a list is of the list with one more
pub among_push : {X : Type 0} (first n : ℕ) (xs : List X) (y : X) → n ≡ first + length xs → IsTrue (is_among first (length (xs ++ y ∷ [])) n)
among_push first n xs y next = let longer : length (xs ++ y ∷ []) ≡ length xs + 1 = length_push xs y in grind (arith, nat_tests)

-- the item at a place of a list with one more
pub push_get : {X : Type 0} (xs : List X) (y x : X) (k : ℕ) → slice_get (xs ++ y ∷ []) k ≡ Some x → (slice_get xs k ≡ Some x) ⊎ ((k ≡ length xs) × (y ≡ x))
push_get [] y x zero h = inr (refl, same_Some _ _ h)
push_get [] y x (suc k) h = absurd (none-some _ h)
push_get (z ∷ xs) y x zero h = inl h
push_get (z ∷ xs) y x (suc k) h = later (push_get xs y x k h)
  where
    later : (slice_get xs k ≡ Some x) ⊎ ((k ≡ length xs) × (y ≡ x)) → (slice_get xs k ≡ Some x) ⊎ ((suc k ≡ suc (length xs)) × (y ≡ x))
    later (inl g) = inl g
    later (inr g) = inr (ap suc g.0, g.1)

-- a list with one more is not empty
pub push_some : {X : Type 0} (xs : List X) (y : X) → xs ++ y ∷ [] ≡ [] → ⊥
push_some xs y h = omega (arith, ap length h, length_push xs y)

-- there is an item at a place before the end
pub get_there : {X : Type 0} (xs : List X) (k : ℕ) → k < length xs → (x : X) × (slice_get xs k ≡ Some x)
get_there [] k below = absurd (omega (arith, below))
get_there (x ∷ xs) zero below = (x, refl)
get_there (x ∷ xs) (suc k) below = get_there xs k (omega (arith, below))

pub push_before : {X : Type 0} (xs : List X) (y : X) (k : ℕ) → k < length xs → slice_get (xs ++ y ∷ []) k ≡ slice_get xs k
push_before [] y k below = absurd (omega (arith, below))
push_before (x ∷ xs) y zero below = refl
push_before (x ∷ xs) y (suc k) below = push_before xs y k (omega (arith, below))

pub push_last : {X : Type 0} (xs : List X) (y : X) (k : ℕ) → k ≡ length xs → slice_get (xs ++ y ∷ []) k ≡ Some y
push_last [] y zero is = refl
push_last [] y (suc k) is = absurd (omega (arith, is))
push_last (x ∷ xs) y zero is = absurd (omega (arith, is))
push_last (x ∷ xs) y (suc k) is = push_last xs y k (omega (arith, is))

module _ {X : Type 0} (by : X → X) (none : X) where
  pub length_change : (xs : List X) (n : ℕ) → length (change by xs n) ≡ length xs
  length_change [] n = refl
  length_change (x ∷ xs) zero = refl
  length_change (x ∷ xs) (suc n) = ap suc (length_change xs n)

  pub change_here : (xs : List X) (n : ℕ) → n < length xs → unwrap_or (slice_get (change by xs n) n) none ≡ by (unwrap_or (slice_get xs n) none)
  change_here [] n below = absurd (omega (arith, below))
  change_here (x ∷ xs) zero below = refl
  change_here (x ∷ xs) (suc n) below = change_here xs n (omega (arith, below))

  pub change_other : (xs : List X) (n k : ℕ) → k ≢ n → unwrap_or (slice_get (change by xs n) k) none ≡ unwrap_or (slice_get xs k) none
  change_other [] n k other = refl
  change_other (x ∷ xs) zero zero other = absurd (other refl)
  change_other (x ∷ xs) zero (suc k) other = refl
  change_other (x ∷ xs) (suc n) zero other = refl
  change_other (x ∷ xs) (suc n) (suc k) other = change_other xs n k (λ same. other (ap suc same))

  -- what the change does not touch
  pub change_unseen : {Y : Type 0} (seen : X → Y) → ((x : X) → seen (by x) ≡ seen x) → (xs : List X) (n k : ℕ)
      → seen (unwrap_or (slice_get (change by xs n) k) none) ≡ seen (unwrap_or (slice_get xs k) none)
  change_unseen seen same [] n k = refl
  change_unseen seen same (x ∷ xs) zero zero = same x
  change_unseen seen same (x ∷ xs) zero (suc k) = refl
  change_unseen seen same (x ∷ xs) (suc n) zero = refl
  change_unseen seen same (x ∷ xs) (suc n) (suc k) = change_unseen seen same xs n k

-- items with their numbers
module _ {X : Type 0} (P : ℕ → X → Type 0) where
  pub each_push : (xs : List X) (y : X) → Each P xs → P (suc (length xs)) y → Each P (xs ++ y ∷ [])
  each_push xs y all last k d below = by (cases_lt k (length xs))
    where
      by : (k < length xs) ⊎ (length xs ≤ k) → P (suc k) (get_or (xs ++ y ∷ []) k d)
      by (inl before) = subst (λ x. P (suc k) x) (sym (get_or_append_left xs (y ∷ []) d k before)) (all k d before)
      by (inr past) =
          let end : length xs ≡ k = omega (arith, length_push xs y) in
          subst (λ x. P (suc k) x) (sym (get_or_push xs y d k end)) (subst (λ n. P (suc n) y) end last)

  pub each_front : (xs : List X) (y : X) → Each P (xs ++ y ∷ []) → Each P xs
  each_front xs y all k d below = subst (λ x. P (suc k) x) (get_or_append_left xs (y ∷ []) d k below) (all k d (omega (arith, length_push xs y, below)))

  pub each_last : (xs : List X) (y : X) → Each P (xs ++ y ∷ []) → P (suc (length xs)) y
  each_last xs y all = subst (λ x. P (suc (length xs)) x) (get_or_push xs y y (length xs) refl) (all (length xs) y (omega (arith, length_push xs y)))

  pub each_weaker : (Q : ℕ → X → Type 0) → ((n : ℕ) (x : X) → P n x → Q n x) → (xs : List X) → Each P xs → Each Q xs
  each_weaker Q weaker xs all k d below = weaker (suc k) (get_or xs k d) (all k d below)
