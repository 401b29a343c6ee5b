-- Two lists whose items belong together, one by one.
use Rattle.std.specs.Prelude.{List, [], ◌∷◌}

abbrev pub Match : {X Y : Type 0} → (X → Y → Type 0) → List X → List Y → Type 0
Match fits [] [] = Unit {0}
Match fits (x ∷ xs) (y ∷ ys) = fits x y × Match fits xs ys
Match fits _ _ = ⊥
