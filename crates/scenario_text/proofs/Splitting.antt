-- The parts of bytes between separators.
use Rattle.std.proofs.Common.{◌≡◌, ℕ, ◌+◌, ◌<◌, ◌≤◌, Bool, true, false, cond, nat_lt, List, [], ◌∷◌, length, take, drop, Some, None, refl, subst, position, arith}
use Rattle.std.specs.List.{slice_split, position_or_len}
use Rattle.std.proofs.lemmas.Bool.Decides.{nat_tests}
use Rattle.std.proofs.lemmas.List.Splits.{slice_split_first, slice_split_none}
use Rattle.std.proofs.lemmas.List.Sums.{fails_before_first}

module _ (p : ℕ → Bool) where
  at_found : (xs : List ℕ) (i : ℕ) (b : Bool) → nat_lt (position_or_len p xs) (length xs) ≡ b → cond b (Some (position_or_len p xs)) None ≡ Some i
      → (position_or_len p xs ≡ i) × (i < length xs)
  at_found xs i true e h = let same : position_or_len p xs ≡ i = cc in (same, grind (arith, nat_tests))
  at_found xs i false e h = absurd (cc)

  -- the first part ends at the first separator
  pub split_at_found : (xs : List ℕ) (i : ℕ) → position p xs ≡ Some i → (i < length xs) × (slice_split p xs ≡ take i xs ∷ slice_split p (drop (i + 1) xs))
  split_at_found xs i h =
      let f : (position_or_len p xs ≡ i) × (i < length xs) = at_found xs i _ refl h in
      (f.1, subst (λ n. slice_split p xs ≡ take n xs ∷ slice_split p (drop (n + 1) xs)) f.0 (slice_split_first p xs 0 (omega arith)))

  past_none : (xs : List ℕ) (b : Bool) → nat_lt (position_or_len p xs) (length xs) ≡ b → cond b (Some (position_or_len p xs)) None ≡ None → length xs ≤ position_or_len p xs
  past_none xs true e h = absurd (cc)
  past_none xs false e h = grind (arith, nat_tests)

  -- with no separator there is one part
  pub split_at_none : (xs : List ℕ) → position p xs ≡ None → slice_split p xs ≡ xs ∷ []
  split_at_none xs h =
      let past : length xs ≤ position_or_len p xs = past_none xs _ refl h in
      slice_split_none p xs (λ k d below. fails_before_first p xs k d (omega arith))
