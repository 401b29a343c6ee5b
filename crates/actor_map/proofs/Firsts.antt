-- Objects that stand one after another.
use Rattle.std.proofs.Common.{◌≡◌, ℕ, zero, suc, ◌+◌, ◌<◌, ◌≤◌, List, [], ◌∷◌, ◌++◌, length, get_or, refl, ap, ◌∙◌, arith}
use Rattle.std.specs.List.{sum}
use Rattle.std.proofs.lemmas.List.Sums.{sum_by-append}
use Rattle.actor_map.specs.Sizes.{firsts}

pub sum_cons : (x : ℕ) (xs : List ℕ) → sum (x ∷ xs) ≡ x + sum xs
sum_cons x xs = let zero_first : 0 + x ≡ x = omega arith in sum_by-append (λ n. n) (x ∷ []) xs ∙ ap (λ m. m + sum xs) zero_first

pub firsts_append : (n : ℕ) (xs ys : List ℕ) → firsts n (xs ++ ys) ≡ firsts n xs ++ firsts (n + sum xs) ys
firsts_append n [] ys = ap (λ m. firsts m ys) (omega arith)
firsts_append n (x ∷ xs) ys = ap (λ l. n ∷ l) (firsts_append (n + x) xs ys ∙ ap (λ m. firsts (n + x) xs ++ firsts m ys) (omega (arith, sum_cons x xs)))

pub length_firsts : (n : ℕ) (xs : List ℕ) → length (firsts n xs) ≡ length xs
length_firsts n [] = refl
length_firsts n (x ∷ xs) = ap suc (length_firsts (n + x) xs)

pub from_first : (n : ℕ) (xs : List ℕ) (i : ℕ) → i < length xs → n ≤ get_or (firsts n xs) i 0
from_first n [] i h = absurd (omega (arith, h))
from_first n (x ∷ xs) zero h = omega arith
from_first n (x ∷ xs) (suc i) h = omega (arith, from_first (n + x) xs i (omega (arith, h)))

pub one_after_another : (n : ℕ) (xs : List ℕ) (i j : ℕ) → i < j → j < length xs → get_or (firsts n xs) i 0 + get_or xs i 0 ≤ get_or (firsts n xs) j 0
one_after_another n [] i j before h = absurd (omega (arith, h))
one_after_another n (x ∷ xs) i zero before h = absurd (omega (arith, before))
one_after_another n (x ∷ xs) zero (suc j) before h = from_first (n + x) xs j (omega (arith, h))
one_after_another n (x ∷ xs) (suc i) (suc j) before h = one_after_another (n + x) xs i j (omega (arith, before)) (omega (arith, h))

pub within_all : (n : ℕ) (xs : List ℕ) (i : ℕ) → i < length xs → get_or (firsts n xs) i 0 + get_or xs i 0 ≤ n + sum xs
within_all n [] i h = absurd (omega (arith, h))
within_all n (x ∷ xs) zero h = omega (arith, sum_cons x xs)
within_all n (x ∷ xs) (suc i) h = omega (arith, sum_cons x xs, within_all (n + x) xs i (omega (arith, h)))
