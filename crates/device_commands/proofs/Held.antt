-- What a new item and one that goes make of whether the item of a number lives.
use Rattle.std.proofs.Common.{◌≡◌, ◌≢◌, ℕ, ◌+◌, ◌-◌, ◌<◌, ◌≤◌, refl, ap, sym, ◌∙◌, arith, inl, inr, Bool, true, false, ◌&&◌, ◌||◌, not, eqb, nat_le, List, [], ◌∷◌, ◌++◌, length, get_or, set, length-append}
use Rattle.std.proofs.lemmas.Bool.{cases_Bool, cases_lt, cases_eq, leb-true, eq-eqb}
use Rattle.std.proofs.lemmas.List.{get_or_append_left, get_or_at, get_or_past, get_or-set_same, get_or-set_other}
use Rattle.device_commands.specs.Objects.{item_at}

pub none_moved : (held : Bool) → held ≡ (false || (held && not false))
none_moved true = refl
none_moved false = refl

other : (m n : ℕ) → m ≢ n → eqb m n ≡ false
other m n different = grind arith

pub push_get : {X : Type 0} (f : X → Bool) (none : X) → f none ≡ false → (xs : List X) (y : X) → f y ≡ true → (i : ℕ)
    → f (get_or (xs ++ y ∷ []) i none) ≡ (eqb i (length xs) || (f (get_or xs i none) && not false))
push_get f none dead xs y live i = elim (cases_lt i (length xs)) [
  | inl inside ↦ rw (other i (length xs) (λ e. absurd (omega arith))) (ap f (get_or_append_left xs (y ∷ []) none i inside) ∙ none_moved (f (get_or xs i none)))
  | inr past ↦ elim (cases_eq i (length xs)) [
    | inl here ↦ rw (eq-eqb i (length xs) here) (ap f (get_or_at xs y [] none i (sym here)) ∙ live)
    | inr beyond ↦
        rw (other i (length xs) beyond)
        (ap f (get_or_past (xs ++ y ∷ []) i none (omega (arith, past, beyond, length-append xs (y ∷ []))) ∙ sym (get_or_past xs i none past)) ∙ none_moved (f (get_or xs i none)))
  ]
]

kept_or_gone : (held gone : Bool) → gone ≡ false → held ≡ (false || (held && not gone))
kept_or_gone true gone is = rw is refl
kept_or_gone false gone is = refl

lost : (held gone : Bool) → gone ≡ true → false ≡ (false || (held && not gone))
lost true gone is = rw is refl
lost false gone is = refl

pub gone_get : {X : Type 0} (f : X → Bool) (none : X) → f none ≡ false → (xs : List X) (k : ℕ) → k < length xs → (i : ℕ)
    → f (get_or (set xs k none) i none) ≡ (false || (f (get_or xs i none) && not (eqb i k)))
gone_get f none dead xs k inside i = elim (cases_eq i k) [
  | inl here ↦ ap f (ap (λ (j : ℕ). get_or (set xs k none) j none) here ∙ get_or-set_same xs k none none inside) ∙ (dead ∙ lost (f (get_or xs i none)) (eqb i k) (eq-eqb i k here))
  | inr elsewhere ↦ ap f (get_or-set_other xs k i none none elsewhere) ∙ kept_or_gone (f (get_or xs i none)) (eqb i k) (other i k elsewhere)
]

shifted : (first n k : ℕ) → first ≤ n → eqb (n - first) k ≡ eqb n (first + k)
shifted first n k h = grind arith

pub push_item : {X : Type 0} (f : X → Bool) (none : X) → f none ≡ false → (first : ℕ) (xs : List X) (y : X) → f y ≡ true → (n : ℕ)
    → f (item_at first (xs ++ y ∷ []) n none) ≡ (eqb n (first + length xs) || (f (item_at first xs n none) && not false))
push_item f none dead first xs y live n = elim (cases_Bool (nat_le first n)) [
  | inl above ↦ rw (above, ← shifted first n (length xs) (leb-true first n above)) (push_get f none dead xs y live (n - first))
  | inr below ↦ rw (below, dead, other n (first + length xs) (λ e. absurd (grind arith))) refl
]

pub gone_item : {X : Type 0} (f : X → Bool) (none : X) → f none ≡ false → (first m : ℕ) (xs : List X) → first ≤ m → m - first < length xs → (n : ℕ)
    → f (item_at first (set xs (m - first) none) n none) ≡ (false || (f (item_at first xs n none) && not (eqb n m)))
gone_item f none dead first m xs low inside n = elim (cases_Bool (nat_le first n)) [
  | inl above ↦
      let same : eqb (n - first) (m - first) ≡ eqb n m = grind (arith, leb-true first n above) in
      rw (above, ← same) (gone_get f none dead xs (m - first) inside (n - first))
  | inr below ↦ rw (below, dead) refl
]
