-- An item of a list that gets longer at its end, and a rule over a list in two parts.
use Rattle.std.proofs.Common.{◌≡◌, ℕ, ◌<◌, suc, zero, ap, sym, ◌∙◌, arith, List, [], ◌∷◌, ◌++◌, length, Some, length-append}
use Rattle.std.specs.Prelude.{drop, slice_get, fold}
use Rattle.std.proofs.lemmas.List.{get_or_push, get_or_append_left}
use Rattle.std.proofs.lemmas.Option.{slice_get_within, get_or_from_slice_get, slice_get-get_or}
use Rattle.bus_core.specs.Follow.{Follows}

module _ {X : Type 0} (xs : List X) (y x : X) (k : ℕ) where
  pub found_more : slice_get xs k ≡ Some x → slice_get (xs ++ y ∷ []) k ≡ Some x
  found_more h =
      let low = slice_get_within xs k x h in
      slice_get-get_or (xs ++ y ∷ []) k x (omega (arith, low, length-append xs (y ∷ []))) ∙ ap (λ z. Some z) (get_or_append_left xs (y ∷ []) x k low ∙ get_or_from_slice_get xs k x x h)

  pub found_before : slice_get (xs ++ y ∷ []) k ≡ Some x → k < length xs → slice_get xs k ≡ Some x
  found_before h low = slice_get-get_or xs k x low ∙ ap (λ z. Some z) (sym (get_or_append_left xs (y ∷ []) x k low) ∙ get_or_from_slice_get (xs ++ y ∷ []) k x x h)

  pub found_last : slice_get (xs ++ y ∷ []) k ≡ Some x → k ≡ length xs → y ≡ x
  found_last h last = sym (get_or_push xs y x k (sym last)) ∙ get_or_from_slice_get (xs ++ y ∷ []) k x x h

-- the list from an item on
pub drop_from : {X : Type 0} (xs : List X) (k : ℕ) (x : X) → slice_get xs k ≡ Some x → drop k xs ≡ x ∷ drop (suc k) xs
drop_from [] k x h = let inside = slice_get_within [] k x h in absurd (omega arith)
drop_from (y ∷ xs) zero x h = ap (λ z. z ∷ xs) (get_or_from_slice_get (y ∷ xs) 0 x x h)
drop_from (y ∷ xs) (suc k) x h = drop_from xs k x (slice_get-get_or xs k x (omega (arith, slice_get_within (y ∷ xs) (suc k) x h)) ∙ ap (λ z. Some z) (get_or_from_slice_get (y ∷ xs) (suc k) x x h))

-- what a rule says of the items before one, and of that one
pub record Parts {S E : Type 0} (allowed : S → E → Type 0) (next : S → E → S) (s : S) (before : List E) (e : E) : Type 0 where
  pub front : Follows allowed next s before
  pub here : allowed (fold next s before) e

pub parts : {S E : Type 0} (allowed : S → E → Type 0) (next : S → E → S) (s : S) (before after : List E) (e : E) → Follows allowed next s (before ++ e ∷ after) → Parts allowed next s before e
parts allowed next s [] after e h = record { front = tt; here = h.0 }
parts allowed next s (x ∷ before) after e h = let rest = parts allowed next (next s x) before after e h.1 in record { front = (h.0, rest.front); here = rest.here }
