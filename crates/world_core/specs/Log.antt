-- What a run keeps of its turns, and what one more adds.
use Rattle.std.specs.Prelude.{ℕ, ◌++◌, Bool, List, [], ◌∷◌, Option, None, Some, is_some}
use Rattle.bus_core.specs.declared.turn.Note.{Note}
use Rattle.noted_history.specs.declared.log.Noted.{Noted}

pub record LogView : Type 0 where
  -- the actor of each turn
  pub turns : List ℕ
  -- of each operation, whether it stands for an entry
  pub marks : List Bool
  -- the notes of those that do
  pub notes : List Noted
  -- for how many turns there is room
  pub capacity : ℕ

abbrev pub with_turn : List ℕ → ℕ → List ℕ
with_turn turns actor = turns ++ actor ∷ []

abbrev pub with_mark : List Bool → Option Note → List Bool
with_mark marks note = marks ++ is_some note ∷ []

abbrev pub with_note : List Noted → ℕ → Option Note → List Noted
with_note notes actor None = notes
with_note notes actor (Some note) = notes ++ record { actor = actor; note = note } ∷ []
