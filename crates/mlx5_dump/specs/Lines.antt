-- The lines of a text, and the answers to them.
use Rattle.std.specs.Prelude.{ℕ, ◌≡◌, ◌≢◌, List, [], ◌∷◌, ◌++◌}
use Rattle.std.specs.List.{AllByRecursion, flat_map}
use Rattle.mlx5_dump.specs.Line.{IsAnswer}

abbrev pub with_end : List ℕ → List ℕ
with_end line = line ++ 10 ∷ []

abbrev pub HasNoEnd : List ℕ → Type 0
HasNoEnd line = AllByRecursion (λ byte. byte ≢ 10) line

-- the text is these lines, each with its line end, and what stands behind the last line end
pub record HasLines (text : List ℕ) (lines : List (List ℕ)) (last : List ℕ) : Type 0 where
  pub spelled : text ≡ flat_map with_end lines ++ last
  pub each : AllByRecursion HasNoEnd lines
  pub rest : HasNoEnd last

-- the lines to be answered: what stands behind the last line end is one too, where it is not empty
abbrev pub and_last : List (List ℕ) → List ℕ → List (List ℕ)
and_last lines [] = lines
and_last lines (byte ∷ last) = lines ++ (byte ∷ last) ∷ []

-- the text is an answer to each line, in order, each with a line end
abbrev pub AreAnswers : List (List ℕ) → List ℕ → Type 0
AreAnswers [] text = text ≡ []
AreAnswers (line ∷ lines) text = (answer : List ℕ) × (rest : List ℕ) × IsAnswer line answer × AreAnswers lines rest × (text ≡ with_end answer ++ rest)
