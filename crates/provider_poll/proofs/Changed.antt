-- A list whose items are changed one after another.
use Rattle.std.proofs.Common.{◌≡◌, ℕ, zero, suc, ◌+◌, ◌<◌, ◌++◌, ap, ◌∙◌, arith, List, [], ◌∷◌, length, map, take, drop, get_or, set}

module _ {X : Type 0} (f : X → X) where
  set_next : (xs : List X) (i : ℕ) (y : X) → i < length xs → y ≡ get_or (map f (take i xs) ++ drop i xs) i y → set (map f (take i xs) ++ drop i xs) i (f y) ≡ map f (take (suc i) xs) ++ drop (suc i) xs
  set_next [] i y inside is = absurd (omega (arith, inside))
  set_next (x ∷ xs) zero y inside is = ap (λ y. f y ∷ xs) is
  set_next (x ∷ xs) (suc i) y inside is = ap (λ rest. f x ∷ rest) (set_next xs i y (omega (arith, inside)) is)

  -- the next item
  pub next_changed : (xs ys : List X) (i : ℕ) (y : X) → ys ≡ map f (take i xs) ++ drop i xs → i < length xs → y ≡ get_or ys i y → set ys i (f y) ≡ map f (take (i + 1) xs) ++ drop (i + 1) xs
  next_changed xs ys i y as_before inside is =
      let one : suc i ≡ i + 1 = omega arith in
      ap (λ zs. set zs i (f y)) as_before ∙ set_next xs i y inside (is ∙ ap (λ zs. get_or zs i y) as_before) ∙ ap (λ n. map f (take n xs) ++ drop n xs) one

-- a list without its first item
pub removed : {X : Type 0} (xs ys : List X) (x : X) → 0 < length xs → x ≡ get_or xs 0 x → ys ≡ take 0 xs ++ drop (0 + 1) xs → x ∷ ys ≡ xs
removed [] ys x some first rest = absurd (omega (arith, some))
removed (z ∷ zs) ys x some first rest = ap (λ z. z ∷ ys) first ∙ ap (λ zs. z ∷ zs) rest
