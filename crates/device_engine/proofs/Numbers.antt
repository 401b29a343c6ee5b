-- One changed value of a list is one changed value by number.
use Rattle.std.proofs.Common.{◌≡◌, ◌≢◌, ℕ, zero, suc, ◌+◌, ◌-◌, ◌<◌, ◌≤◌, ◌==◌, inl, inr, refl, sym, ap, ◌∙◌, subst, arith, true, List, [], ◌∷◌, ◌++◌, length, set, length-set, eqb-true, Option, Some, None, slice_get}
use Rattle.std.specs.Option.{option_map_or}
use Rattle.std.proofs.lemmas.Bool.{cases_Bool, cond-true, cond-false, eqb-false}
use Rattle.std.proofs.lemmas.Bool.{le-leb, lt-ltb}
use Rattle.std.proofs.lemmas.List.{get_or-set_same}
use Rattle.std.proofs.lemmas.Option.{slice_get_within, slice_get-get_or}
use Rattle.verbs_types.specs.Lines.{is_among}
use Rattle.verbs_laws.proofs.Families.{among, put_at, put_beside}
use Rattle.device_engine.specs.State.{put_number}
use Rattle.device_engine.specs.View.{by_number}

pub get_same : {X : Type 0} (xs : List X) (k : ℕ) (y : X) → k < length xs → slice_get (set xs k y) k ≡ Some y
get_same xs k y inside = slice_get-get_or (set xs k y) k y (omega (arith, inside, length-set xs k y)) ∙ ap Some (get_or-set_same xs k y y inside)

pub get_other : {X : Type 0} (xs : List X) (k j : ℕ) (y : X) → j ≢ k → slice_get (set xs k y) j ≡ slice_get xs j
get_other [] k j y apart = refl
get_other (x ∷ xs) zero zero y apart = absurd (apart refl)
get_other (x ∷ xs) zero (suc j) y apart = refl
get_other (x ∷ xs) (suc k) zero y apart = refl
get_other (x ∷ xs) (suc k) (suc j) y apart = get_other xs k j y (λ h. apart (ap suc h))

-- what holds of each item of a list, and of one more
pub each_more : {X : Type 0} (P : ℕ → X → Type 0) (xs : List X) (y : X) → ((i : ℕ) (x : X) → slice_get xs i ≡ Some x → P i x) → P (length xs) y
    → (i : ℕ) (x : X) → slice_get (xs ++ y ∷ []) i ≡ Some x → P i x
each_more P [] y each last zero x found = let same : y ≡ x = cc in subst (P zero) same last
each_more P [] y each last (suc i) x found = absurd (cc)
each_more P (z ∷ zs) y each last zero x found = each zero x found
each_more P (z ∷ zs) y each last (suc i) x found = each_more (λ j. P (suc j)) zs y (λ j w at_j. each (suc j) w at_j) last i x found

pub is_there : (first count k : ℕ) → k < count → is_among first count (first + k) ≡ true
is_there first count k inside =
    let place : (first + k) - first ≡ k = omega arith in
    rw (le-leb first (first + k) (omega arith), place, lt-ltb k count inside) refl

module _ {X V : Type 0} (first : ℕ) (value : X → V) (other : ℕ → V) where
  pub by_at : (xs : List X) (k : ℕ) (x : X) → slice_get xs k ≡ Some x → by_number first xs value other (first + k) ≡ value x
  by_at xs k x found =
      let place : (first + k) - first ≡ k = omega arith in
      cond-true _ _ _ (is_there first (length xs) k (slice_get_within xs k x found))
      ∙ (ap (λ (j : ℕ). option_map_or value (slice_get xs j) (other (first + k))) place ∙ ap (λ (o : Option X). option_map_or value o (other (first + k))) found)

  -- at any other number
  by_beside : (xs : List X) (k : ℕ) (y : X) (n : ℕ) → n ≢ first + k → by_number first (set xs k y) value other n ≡ by_number first xs value other n
  by_beside xs k y n apart =
      let same_test = ap (λ (c : ℕ). is_among first c n) (length-set xs k y) in
      elim (cases_Bool (is_among first (length xs) n)) [
        | inl inside ↦
            let parts = among first (length xs) n inside in
            let beside : n - first ≢ k = λ h. apart (omega (arith, h, parts.0)) in
            cond-true _ _ _ (same_test ∙ inside) ∙ (ap (λ (o : Option X). option_map_or value o (other n)) (get_other xs k (n - first) y beside) ∙ sym (cond-true _ _ _ inside))
        | inr outside ↦ cond-false _ _ _ (same_test ∙ outside) ∙ sym (cond-false _ _ _ outside)
      ]

  pub by_put : (xs : List X) (k : ℕ) (x y : X) → slice_get xs k ≡ Some x → (n : ℕ)
      → by_number first (set xs k y) value other n ≡ put_number (by_number first xs value other) (first + k) (value y) n
  by_put xs k x y found n =
      elim (cases_Bool (n == first + k)) [
        | inl same ↦
            ap (by_number first (set xs k y) value other) (eqb-true n (first + k) same)
            ∙ (by_at (set xs k y) k y (get_same xs k y (slice_get_within xs k x found)) ∙ sym (put_at (λ (a b : ℕ). a == b) (by_number first xs value other) (first + k) (value y) n same))
        | inr beside ↦
            by_beside xs k y n (eqb-false n (first + k) beside) ∙ sym (put_beside (λ (a b : ℕ). a == b) (by_number first xs value other) (first + k) (value y) n beside)
      ]

  -- a value that is as before
  pub by_same : (xs : List X) (k : ℕ) (x y : X) → slice_get xs k ≡ Some x → value y ≡ value x → (n : ℕ) → by_number first (set xs k y) value other n ≡ by_number first xs value other n
  by_same xs k x y found same n =
      elim (cases_Bool (n == first + k)) [
        | inl here ↦
            let number = eqb-true n (first + k) here in
            ap (by_number first (set xs k y) value other) number
            ∙ (by_at (set xs k y) k y (get_same xs k y (slice_get_within xs k x found))
            ∙ (same ∙ (sym (by_at xs k x found) ∙ ap (by_number first xs value other) (sym number))))
        | inr beside ↦ by_beside xs k y n (eqb-false n (first + k) beside)
      ]

  -- where each value is the one of its number
  some_value : (xs : List X) (each : (i : ℕ) (x : X) → slice_get xs i ≡ Some x → value x ≡ other (first + i)) (n : ℕ) (o : Option X) → slice_get xs (n - first) ≡ o → first ≤ n
      → option_map_or value o (other n) ≡ other n
  some_value xs each n None is low = refl
  some_value xs each n (Some x) is low = each (n - first) x is ∙ ap other (omega (arith, low))

  pub by_other : (xs : List X) → ((i : ℕ) (x : X) → slice_get xs i ≡ Some x → value x ≡ other (first + i)) → (n : ℕ) → by_number first xs value other n ≡ other n
  by_other xs each n =
      elim (cases_Bool (is_among first (length xs) n)) [
        | inl inside ↦ cond-true _ _ _ inside ∙ some_value xs each n (slice_get xs (n - first)) refl (among first (length xs) n inside).0
        | inr outside ↦ cond-false _ _ _ outside
      ]
