-- Completions beside the entries that spell them.
use Rattle.std.proofs.Common.{◌≡◌, ℕ, zero, suc, refl, ap, ◌∙◌, subst, arith, List, [], ◌∷◌, ◌++◌, length, Some}
use Rattle.std.specs.Prelude.{drop, slice_get}
use Rattle.std.proofs.lemmas.Option.{slice_get_within, get_or_from_slice_get, slice_get-get_or}
use Rattle.cqe_format.specs.declared.completion.Cqe.{Cqe}
use Rattle.cqe_format.specs.Bytes.{entry_bytes}
use Rattle.cqe_format.specs.Completion.{IsCqe}

abbrev pub AllSpelled : List Cqe → List (List ℕ) → Type 0
AllSpelled [] [] = Unit {0}
AllSpelled [] (ws ∷ wss) = ⊥
AllSpelled (c ∷ cs) [] = ⊥
AllSpelled (c ∷ cs) (ws ∷ wss) = IsCqe c (entry_bytes ws) × AllSpelled cs wss

pub same_length : (cs : List Cqe) (wss : List (List ℕ)) → AllSpelled cs wss → length cs ≡ length wss
same_length [] [] h = refl
same_length [] (ws ∷ wss) h = absurd h
same_length (c ∷ cs) [] h = absurd h
same_length (c ∷ cs) (ws ∷ wss) h = ap suc (same_length cs wss h.1)

pub spelled_push : (cs : List Cqe) (wss : List (List ℕ)) (c : Cqe) (ws : List ℕ) → AllSpelled cs wss → IsCqe c (entry_bytes ws) → AllSpelled (cs ++ c ∷ []) (wss ++ ws ∷ [])
spelled_push [] [] c ws h k = (k, tt)
spelled_push [] (xs ∷ xss) c ws h k = absurd h
spelled_push (b ∷ cs) [] c ws h k = absurd h
spelled_push (b ∷ cs) (xs ∷ xss) c ws h k = (h.0, spelled_push cs xss c ws h.1 k)

pub spelled_drop : (n : ℕ) (cs : List Cqe) (wss : List (List ℕ)) → AllSpelled cs wss → AllSpelled (drop n cs) (drop n wss)
spelled_drop zero cs wss h = h
spelled_drop (suc n) [] [] h = tt
spelled_drop (suc n) [] (ws ∷ wss) h = absurd h
spelled_drop (suc n) (c ∷ cs) [] h = absurd h
spelled_drop (suc n) (c ∷ cs) (ws ∷ wss) h = spelled_drop n cs wss h.1

-- the completion that an entry spells
pub record Spelling (cs : List Cqe) (k : ℕ) (ws : List ℕ) : Type 0 where
  pub completion : Cqe
  pub found : slice_get cs k ≡ Some completion
  pub spelled : IsCqe completion (entry_bytes ws)

pub spelled_at : (cs : List Cqe) (wss : List (List ℕ)) (k : ℕ) (ws : List ℕ) → AllSpelled cs wss → slice_get wss k ≡ Some ws → Spelling cs k ws
spelled_at [] [] k ws h is = let inside = slice_get_within [] k ws is in absurd (omega arith)
spelled_at [] (xs ∷ xss) k ws h is = absurd h
spelled_at (c ∷ cs) [] k ws h is = absurd h
spelled_at (c ∷ cs) (xs ∷ xss) zero ws h is =
    let same : xs ≡ ws = get_or_from_slice_get (xs ∷ xss) 0 ws ws is in
    record { completion = c; found = slice_get-get_or (c ∷ cs) 0 c (omega arith); spelled = subst (λ (vs : List ℕ). IsCqe c (entry_bytes vs)) same h.0 }
spelled_at (c ∷ cs) (xs ∷ xss) (suc k) ws h is =
    let rest = spelled_at cs xss k ws h.1 (slice_get-get_or xss k ws (omega (arith, slice_get_within (xs ∷ xss) (suc k) ws is)) ∙ ap (λ vs. Some vs) (get_or_from_slice_get (xs ∷ xss) (suc k) ws ws is)) in
    let inside = slice_get_within cs k rest.completion rest.found in
    record {
      completion = rest.completion;
      found = slice_get-get_or (c ∷ cs) (suc k) c (omega arith) ∙ ap (λ x. Some x) (get_or_from_slice_get cs k rest.completion c rest.found);
      spelled = rest.spelled;
    }
