-- An item of a list is changed.
use Rattle.std.proofs.Common.{◌≡◌, ℕ, zero, suc, ◌<◌, ◌≤◌, List, [], ◌∷◌, length, slice_index_or, slice_set, refl, sym, ap, ◌∙◌, subst, arith}
use Rattle.scenario_text.specs.AfterObjects.{change}

-- the item that is there is replaced
pub change_there : {X : Type 0} (by : X → X) (xs : List X) (n : ℕ) (x : X) → n < length xs → ((d : X) → x ≡ slice_index_or xs n d) → slice_set xs n (by x) ≡ change by xs n
change_there by [] n x low is = absurd (omega (arith, low))
change_there by (y ∷ ys) zero x low is = ap (λ z. by z ∷ ys) (is x)
change_there by (y ∷ ys) (suc n) x low is = ap (λ zs. y ∷ zs) (change_there by ys n x (omega (arith, low)) is)

-- past the end nothing is changed
pub change_none : {X : Type 0} (by : X → X) (xs : List X) (n : ℕ) → length xs ≤ n → change by xs n ≡ xs
change_none by [] n high = refl
change_none by (y ∷ ys) zero high = absurd (omega (arith, high))
change_none by (y ∷ ys) (suc n) high = ap (λ zs. y ∷ zs) (change_none by ys n (omega (arith, high)))

-- the same, where list, place and new item are known by other names
pub change_of : {X : Type 0} (by : X → X) (xs ys : List X) (n m : ℕ) (x new : X) → ys ≡ xs → m ≡ n → new ≡ by x → m < length ys → ((d : X) → x ≡ slice_index_or ys m d)
    → slice_set xs m new ≡ change by xs n
change_of {X} by xs ys n m x new same place item low is =
    ap (slice_set xs m) item ∙ change_there by xs m x (subst (λ (zs : List X). m < length zs) same low) (λ d. is d ∙ ap (λ (zs : List X). slice_index_or zs m d) same) ∙ ap (change by xs) place

pub change_not : {X : Type 0} (by : X → X) (xs ys : List X) (n m : ℕ) → ys ≡ xs → m ≡ n → length ys ≤ m → xs ≡ change by xs n
change_not {X} by xs ys n m same place high = sym (change_none by xs m (subst (λ (zs : List X). length zs ≤ m) same high)) ∙ ap (change by xs) place
