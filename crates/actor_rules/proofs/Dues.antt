-- What the threads owe, as one thread's progress changes.
use Rattle.std.proofs.Common.{◌≡◌, ℕ, zero, suc, ◌+◌, ◌<◌, Bool, true, false, if◌then◌else◌, List, [], ◌∷◌, length, refl, sym, ◌∙◌, ap, arith, ◌==◌, slice_index_or, slice_set}
use Rattle.std.proofs.lemmas.Bool.{eq-eqb, eqb-true, false≢true}
use Rattle.std.proofs.lemmas.List.{get_or-set_same, get_or-set_other}
use mathlib.Core.Path.{fun_ext}
use Rattle.std.specs.List.{sum_by, fold}
use Rattle.std.proofs.lemmas.List.Sums.{sum_by-set}
use Rattle.verbs_rules.specs.Family.{put}
use Rattle.verbs_rules.specs.Answered.{Due}
use Rattle.verbs_rules.specs.Proper.{over_dues}
use Rattle.actor_rules.specs.Dues.{dues_at}

at_suc : (dues : List (List Due)) (t j : ℕ) (ds : List Due) → t < length dues → (b : Bool) → (suc j == suc t) ≡ b → slice_index_or (slice_set dues t ds) j [] ≡ (if b then ds else slice_index_or dues j [])
at_suc dues t j ds low true e = let same : j ≡ t = omega (arith, eqb-true (suc j) (suc t) e) in rw same (get_or-set_same dues t ds [] low)
at_suc dues t j ds low false e = get_or-set_other dues t j ds [] (λ same. absurd (false≢true (sym e ∙ eq-eqb (suc j) (suc t) (ap suc same))))

at_zero : (t : ℕ) (ds : List Due) (b : Bool) → (zero == suc t) ≡ b → [] ≡ (if b then ds else [])
at_zero t ds true e = let never : zero ≡ suc t = eqb-true zero (suc t) e in absurd (omega (arith, never))
at_zero t ds false e = refl

at_any : (dues : List (List Due)) (t j : ℕ) (ds : List Due) → t < length dues → dues_at (slice_set dues t ds) j ≡ put (λ (m n : ℕ). m == n) (dues_at dues) (suc t) ds j
at_any dues t zero ds low = at_zero t ds (zero == suc t) refl
at_any dues t (suc j) ds low = at_suc dues t j ds low (suc j == suc t) refl

pub dues_at-set : (dues : List (List Due)) (t : ℕ) (ds : List Due) → t < length dues → dues_at (slice_set dues t ds) ≡ put (λ (m n : ℕ). m == n) (dues_at dues) (suc t) ds
dues_at-set dues t ds low = fun_ext (λ j. at_any dues t j ds low)

-- sums over what the threads owe, as one of them owes something else
pub over_dues-set : (count : Due → ℕ) (dues : List (List Due)) (t : ℕ) (ds : List Due) → t < length dues → over_dues count (slice_set dues t ds) + sum_by count (slice_index_or dues t []) ≡ over_dues count dues + sum_by count ds
over_dues-set count dues t ds low = sum_by-set (λ (xs : List Due). sum_by count xs) dues t ds [] low

fold_more : {X : Type 0} (f : X → ℕ) (xs : List X) (n m : ℕ) → fold (λ a x. a + f x) (n + m) xs ≡ n + fold (λ a x. a + f x) m xs
fold_more f [] n m = refl
fold_more f (x ∷ xs) n m = ap (λ k. fold (λ a y. a + f y) k xs) (let e : n + m + f x ≡ n + (m + f x) = omega arith in e) ∙ fold_more f xs n (m + f x)

pub sum_by-cons : {X : Type 0} (f : X → ℕ) (x : X) (xs : List X) → sum_by f (x ∷ xs) ≡ f x + sum_by f xs
sum_by-cons f x xs = ap (λ k. fold (λ a y. a + f y) k xs) (let e : 0 + f x ≡ f x + 0 = omega arith in e) ∙ fold_more f xs (f x) 0
