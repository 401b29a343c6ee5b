-- What two lists have in common whose items belong together.
use Rattle.std.proofs.Common.{◌≡◌, ℕ, zero, suc, ◌++◌, refl, ap, subst, List, [], ◌∷◌, length, take, drop, slice_get, unwrap_or, is_some, Some}
use Rattle.std.proofs.lemmas.Bool.{false≢true}
use Rattle.actor_rules.specs.Matching.{Match}

module _ {X Y : Type 0} where
  pub match_length : (fits : X → Y → Type 0) (xs : List X) (ys : List Y) → Match fits xs ys → length xs ≡ length ys
  match_length fits [] [] h = refl
  match_length fits [] (y ∷ ys) h = absurd h
  match_length fits (x ∷ xs) [] h = absurd h
  match_length fits (x ∷ xs) (y ∷ ys) h = ap suc (match_length fits xs ys h.1)

  pub match_weaken : (fits also : X → Y → Type 0) → ((x : X) (y : Y) → fits x y → also x y) → (xs : List X) (ys : List Y) → Match fits xs ys → Match also xs ys
  match_weaken fits also f [] [] h = tt
  match_weaken fits also f [] (y ∷ ys) h = absurd h
  match_weaken fits also f (x ∷ xs) [] h = absurd h
  match_weaken fits also f (x ∷ xs) (y ∷ ys) h = (f x y h.0, match_weaken fits also f xs ys h.1)

  pub match_push : (fits : X → Y → Type 0) (xs : List X) (ys : List Y) (x : X) (y : Y) → Match fits xs ys → fits x y → Match fits (xs ++ x ∷ []) (ys ++ y ∷ [])
  match_push fits [] [] x y h last = (last, tt)
  match_push fits [] (b ∷ ys) x y h last = absurd h
  match_push fits (a ∷ xs) [] x y h last = absurd h
  match_push fits (a ∷ xs) (b ∷ ys) x y h last = (h.0, match_push fits xs ys x y h.1 last)

  pub match_take : (fits : X → Y → Type 0) (n : ℕ) (xs : List X) (ys : List Y) → Match fits xs ys → Match fits (take n xs) (take n ys)
  match_take fits zero xs ys h = tt
  match_take fits (suc n) [] [] h = tt
  match_take fits (suc n) [] (y ∷ ys) h = absurd h
  match_take fits (suc n) (x ∷ xs) [] h = absurd h
  match_take fits (suc n) (x ∷ xs) (y ∷ ys) h = (h.0, match_take fits n xs ys h.1)

  pub match_drop : (fits : X → Y → Type 0) (n : ℕ) (xs : List X) (ys : List Y) → Match fits xs ys → Match fits (drop n xs) (drop n ys)
  match_drop fits zero xs ys h = h
  match_drop fits (suc n) [] [] h = tt
  match_drop fits (suc n) [] (y ∷ ys) h = absurd h
  match_drop fits (suc n) (x ∷ xs) [] h = absurd h
  match_drop fits (suc n) (x ∷ xs) (y ∷ ys) h = match_drop fits n xs ys h.1

  -- the items at one place belong together
  pub match_at : (fits : X → Y → Type 0) (n : ℕ) (xs : List X) (ys : List Y) (x : X) → Match fits xs ys → slice_get xs n ≡ Some x → (y : Y) × (slice_get ys n ≡ Some y) × fits x y
  match_at fits zero [] ys x h there = absurd (false≢true (ap is_some there))
  match_at fits (suc n) [] ys x h there = absurd (false≢true (ap is_some there))
  match_at fits n (a ∷ xs) [] x h there = absurd h
  match_at fits zero (a ∷ xs) (b ∷ ys) x h there = (b, refl, subst (λ (z : X). fits z b) (ap (λ o. unwrap_or o a) there) h.0)
  match_at fits (suc n) (a ∷ xs) (b ∷ ys) x h there = match_at fits n xs ys x h.1 there

  -- and the other way round
  pub match_of : (fits : X → Y → Type 0) (n : ℕ) (xs : List X) (ys : List Y) (y : Y) → Match fits xs ys → slice_get ys n ≡ Some y → (x : X) × (slice_get xs n ≡ Some x) × fits x y
  match_of fits zero xs [] y h there = absurd (false≢true (ap is_some there))
  match_of fits (suc n) xs [] y h there = absurd (false≢true (ap is_some there))
  match_of fits n [] (b ∷ ys) y h there = absurd h
  match_of fits zero (a ∷ xs) (b ∷ ys) y h there = (a, refl, subst (λ (z : Y). fits a z) (ap (λ o. unwrap_or o b) there) h.0)
  match_of fits (suc n) (a ∷ xs) (b ∷ ys) y h there = match_of fits n xs ys y h.1 there
