-- Lines, and what is answered to each.
use Rattle.std.specs.Prelude.{ℕ, ◌≡◌, ◌⊎◌, IsTrue, List, ◌∷◌, ◌++◌, length, codes}
use Rattle.mlx5_dump.specs.declared.kind.Kind.{Kind}
use Rattle.mlx5_dump.specs.Kind.{kind_name, has_length}
use Rattle.mlx5_dump.specs.Hex.{hex_text, AreBytes}
use Rattle.mlx5_dump.specs.Answer.{Answers}

-- the name of a kind, a space, and digits
abbrev pub dump_text : Kind → List ℕ → List ℕ
dump_text kind digits = kind_name kind ++ 32 ∷ digits

-- the line is a dump of these bytes as this kind
pub record IsDump (kind : Kind) (bytes line : List ℕ) : Type 0 where
  pub spelled : line ≡ dump_text kind (hex_text bytes)
  pub small : AreBytes bytes
  pub long : IsTrue (has_length kind (length bytes))

-- the line is a dump that has this answer
pub record IsGood (line answer : List ℕ) : Type 0 where
  pub kind : Kind
  pub bytes : List ℕ
  pub dump : IsDump kind bytes line
  pub answered : Answers kind bytes answer

-- the line is no dump at all
pub record IsMalformed (line answer : List ℕ) : Type 0 where
  pub no_dump : (kind : Kind) (bytes : List ℕ) → ¬ IsDump kind bytes line
  pub answered : answer ≡ codes "malformed"

abbrev pub IsAnswer : List ℕ → List ℕ → Type 0
IsAnswer line answer = IsGood line answer ⊎ IsMalformed line answer

-- a text has grown by the answer to a line
pub record AddsAnswer (line old new : List ℕ) : Type 0 where
  pub answer : List ℕ
  pub answered : IsAnswer line answer
  pub grown : new ≡ old ++ answer
