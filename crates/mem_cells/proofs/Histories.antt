-- Lists whose items are allowed one after another, taken apart.
use Rattle.std.proofs.Common.{sym, subst, List, [], ◌∷◌, ◌++◌, append_assoc}
use Rattle.std.specs.List.{fold}
use Rattle.std.proofs.lemmas.List.{append-nil}
use Rattle.bus_core.specs.Follow.{Follows}

module _ {S E : Type 0} (allowed : S → E → Type 0) (next : S → E → S) where
  -- each part of such a list is one, the second from where the first ends
  pub Follows_parts : (s : S) (xs ys : List E) → Follows allowed next s (xs ++ ys) → Follows allowed next s xs × Follows allowed next (fold next s xs) ys
  Follows_parts s [] ys h = (tt, h)
  Follows_parts s (x ∷ xs) ys h = let rest = Follows_parts (next s x) xs ys h.1 in ((h.0, rest.0), rest.1)

  -- what each item keeps, the list keeps
  pub kept_along : (Keeps : List E → S → Type 0) → ((past : List E) (s : S) (e : E) → Keeps past s → allowed s e → Keeps (past ++ e ∷ []) (next s e)) →
      (past : List E) (s : S) (xs : List E) → Keeps past s → Follows allowed next s xs → Keeps (past ++ xs) (fold next s xs)
  kept_along Keeps step past s [] k h = subst (λ (es : List E). Keeps es s) (sym (append-nil past)) k
  kept_along Keeps step past s (x ∷ xs) k h =
      subst (λ (es : List E). Keeps es (fold next (next s x) xs)) (append_assoc past (x ∷ []) xs) (kept_along Keeps step (past ++ x ∷ []) (next s x) xs (step past s x k h.0) h.1)
