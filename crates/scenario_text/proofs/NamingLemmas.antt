-- Names and what they stand for.
use Rattle.std.proofs.Common.{◌≡◌, ℕ, Bool, true, false, cond, List, [], ◌∷◌, ◌++◌, map, Some, None, refl, ap, ◌∙◌, ap₂, bytes_eq}
use Rattle.std.specs.Map.{lookup}
use Rattle.indexmap.specs.IndexMap.{insert_entry}
use Rattle.std.proofs.lemmas.List.{map-append}
use Rattle.scenario_text.specs.declared.names.Meaning.{Meaning}
use Rattle.scenario_text.specs.Naming.{Entry, meaning_of}

-- a map from bytes is looked up as the list of its entries
pub found_in : {K : Type 0} (bytes : K → List ℕ) (es : List (K × Meaning)) (name : List ℕ)
    → lookup (λ k. bytes_eq name (bytes k)) es ≡ meaning_of (map (λ e. record { name = bytes e.0; meaning = e.1 }) es) name
found_in bytes [] name = refl
found_in bytes (e ∷ es) name = ap (λ rest. cond (bytes_eq name (bytes e.0)) (Some e.1) rest) (found_in bytes es name)

-- a new key goes last
insert_new : {K : Type 0} (bytes : K → List ℕ) (es : List (K × Meaning)) (key : K) (w : Meaning) → lookup (λ k. bytes_eq (bytes key) (bytes k)) es ≡ None
    → insert_entry (λ j k. bytes_eq (bytes j) (bytes k)) es key w ≡ es ++ (key, w) ∷ []
insert_new bytes [] key w none = refl
insert_new {K} bytes (e ∷ es) key w none = by (bytes_eq (bytes key) (bytes e.0)) (insert_new bytes es key w) none
  where
    by : (b : Bool)
        → (lookup (λ k. bytes_eq (bytes key) (bytes k)) es ≡ None → insert_entry (λ j k. bytes_eq (bytes j) (bytes k)) es key w ≡ es ++ (key, w) ∷ [])
        → cond b (Some e.1) (lookup (λ k. bytes_eq (bytes key) (bytes k)) es) ≡ None
        → cond b ((e.0, w) ∷ es) (e ∷ insert_entry (λ j k. bytes_eq (bytes j) (bytes k)) es key w) ≡ e ∷ es ++ (key, w) ∷ []
    by true rest h = absurd (cc)
    by false rest h = ap (λ others. e ∷ others) (rest h)

pub entries_more : {K : Type 0} (bytes : K → List ℕ) (es new : List (K × Meaning)) (key : K) (w : Meaning) (name : List ℕ) (before : List Entry) → bytes key ≡ name
    → map (λ e. record { name = bytes e.0; meaning = e.1 }) es ≡ before → meaning_of before name ≡ None → new ≡ insert_entry (λ j k. bytes_eq (bytes j) (bytes k)) es key w
    → map (λ e. record { name = bytes e.0; meaning = e.1 }) new ≡ before ++ record { name = name; meaning = w } ∷ []
entries_more {K} bytes es new key w name before same view none is =
    let view_of : List (K × Meaning) → List Entry = map (λ e. record { name = bytes e.0; meaning = e.1 }) in
    let absent : lookup (λ k. bytes_eq (bytes key) (bytes k)) es ≡ None = found_in bytes es (bytes key) ∙ ap₂ meaning_of view same ∙ none in
    ap view_of (is ∙ insert_new bytes es key w absent) ∙ map-append (λ (e : K × Meaning). record { name = bytes e.0; meaning = e.1 }) es ((key, w) ∷ [])
    ∙ ap₂ (λ front n. front ++ record { name = n; meaning = w } ∷ []) view same
