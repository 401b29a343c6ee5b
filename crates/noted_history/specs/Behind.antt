-- What a thread still posts, by what it owes and by how many of its calls are behind.
use Rattle.std.specs.Prelude.{◌≡◌, ℕ, List, [], ◌∷◌, take, flat_map}
use Rattle.verbs_types.specs.declared.call.Call.{Call}
use Rattle.verbs_types.specs.declared.request.Item.{Item}
use Rattle.verbs_rules.specs.Answered.{Due, Posting, Accepting}
use Rattle.noted_history.specs.Posting.{lists_from}

-- the lists that are owed
abbrev pub owed_list : Due → List (List Item)
owed_list (Posting queue items) = items ∷ []
owed_list (Accepting queue items) = items ∷ []
owed_list _ = []

abbrev pub owed_lists : List Due → List (List Item)
owed_lists dues = flat_map owed_list dues

-- The lists that are owed are those that are left; of the first perhaps only a beginning.
abbrev pub IsCut : List (List Item) → List (List Item) → Type 0
IsCut [] [] = Unit {0}
IsCut (owed ∷ later) (items ∷ rest) = (k : ℕ) × (owed ≡ take k items) × (later ≡ rest)
IsCut _ _ = ⊥

abbrev pub IsBehind : List Call → ℕ → List Due → Type 0
IsBehind calls behind dues = IsCut (owed_lists dues) (lists_from calls behind)
