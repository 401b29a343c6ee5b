-- A line is its first field, and then each further one after a space.
use Rattle.std.proofs.Common.{◌≡◌, ℕ, List, [], ◌∷◌, ◌++◌, sym, ap, append-nil, append_assoc, arith}
use Rattle.std.specs.List.{join_with_byte}
use Rattle.scenario_text.specs.Requests.{line}
use Rattle.transcript_text.specs.Fields.{spaced}

pub joined_fields : (x : List ℕ) (xs : List (List ℕ)) → join_with_byte 32 (x ∷ xs) ≡ x ++ spaced xs
joined_fields x [] = sym (append-nil x)
joined_fields x (y ∷ ys) = ap (λ t. x ++ 32 ∷ t) (joined_fields y ys)

-- four pieces, each added at the end
pub four_added : (old a b c new w x y z : List ℕ) → a ≡ old ++ w → b ≡ a ++ x → c ≡ b ++ y → new ≡ c ++ z → new ≡ old ++ (w ++ x ++ y ++ z)
four_added old a b c new w x y z p q r s = grind (arith, append_assoc)

-- a first field, the further ones, and the end of the line
pub line_added : (old a b new name : List ℕ) (fields : List (List ℕ)) → a ≡ old ++ name → b ≡ a ++ spaced fields → new ≡ b ++ 10 ∷ [] → new ≡ old ++ line (name ∷ fields)
line_added old a b new name fields p q r = rw (joined_fields name fields) (grind (arith, append_assoc))

-- three pieces, each added at the end
pub three_added : (old a b new w x y : List ℕ) → a ≡ old ++ w → b ≡ a ++ x → new ≡ b ++ y → new ≡ old ++ (w ++ x ++ y)
three_added old a b new w x y p q r = grind (arith, append_assoc)
