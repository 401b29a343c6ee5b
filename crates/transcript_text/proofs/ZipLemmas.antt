-- A text that is made pair by pair of two lists side by side.
use Rattle.std.proofs.Common.{◌≡◌, ℕ, ◌+◌, ◌<◌, List, [], ◌∷◌, ◌++◌, length, take, get_or, zip, min, sym, ap, ◌∙◌, append_assoc, append-nil, arith}
use Rattle.std.specs.List.{flat_map}
use Rattle.std.proofs.lemmas.List.{take_more, take_all}
use Rattle.std.proofs.lemmas.List.Concat.{flat_map-append}
use Rattle.std.proofs.lemmas.Slice.Zip.{length-zip, get_or-zip}

module _ {A B C : Type 0} (f : A × B → List C) (ks : List A) (vs : List B) where
  next_pair : (n : ℕ) (x : A) (y : B) → n < length ks → n < length vs → x ≡ get_or ks n x → y ≡ get_or vs n y → take (n + 1) (zip ks vs) ≡ take n (zip ks vs) ++ (x, y) ∷ []
  next_pair n x y first second here there =
      let pair : get_or (zip ks vs) n (x, y) ≡ (x, y) = get_or-zip ks vs n (x, y) first second ∙ (λ i. (sym here i, sym there i)) in
      take_more (zip ks vs) n (x, y) (omega (arith, length-zip ks vs)) ∙ ap (λ p. take n (zip ks vs) ++ p ∷ []) pair

  pub pair_added : (old now new : List C) (n : ℕ) (x : A) (y : B) → n < length ks → n < length vs → x ≡ get_or ks n x → y ≡ get_or vs n y → now ≡ old ++ flat_map f (take n (zip ks vs)) → new ≡ now ++ f (x, y) → new ≡ old ++ flat_map f (take (n + 1) (zip ks vs))
  pair_added old now new n x y first second here there before step =
      let text : flat_map f (take (n + 1) (zip ks vs)) ≡ flat_map f (take n (zip ks vs)) ++ f (x, y) = rw (next_pair n x y first second here there, flat_map-append) (ap (λ t. flat_map f (take n (zip ks vs)) ++ t) (append-nil (f (x, y)))) in
      step ∙ ap (λ t. t ++ f (x, y)) before ∙ append_assoc old (flat_map f (take n (zip ks vs))) (f (x, y)) ∙ ap (λ t. old ++ t) (sym text)

  pub all_added : (old new : List C) (n : ℕ) → n ≡ min (length ks) (length vs) → new ≡ old ++ flat_map f (take n (zip ks vs)) → new ≡ old ++ flat_map f (zip ks vs)
  all_added old new n whole h = h ∙ ap (λ ps. old ++ flat_map f ps) (take_all n (zip ks vs) (omega (arith, length-zip ks vs)))
