-- Lists that are followed, in parts.
use Rattle.std.proofs.Common.{List, [], ◌∷◌, ◌++◌}
use Rattle.std.specs.List.{fold}
use Rattle.bus_core.specs.Follow.{Follows}

module _ {S E : Type 0} (allowed : S → E → Type 0) (next : S → E → S) where
  pub follows_first : (s : S) (xs ys : List E) → Follows allowed next s (xs ++ ys) → Follows allowed next s xs
  follows_first s [] ys h = tt
  follows_first s (x ∷ xs) ys h = (h.0, follows_first (next s x) xs ys h.1)

  pub follows_rest : (s : S) (xs ys : List E) → Follows allowed next s (xs ++ ys) → Follows allowed next (fold next s xs) ys
  follows_rest s [] ys h = h
  follows_rest s (x ∷ xs) ys h = follows_rest (next s x) xs ys h.1
