-- The lists that calls post.
use Rattle.std.specs.Prelude.{ℕ, ◌≡◌, ◌+◌, List, [], ◌∷◌, drop, Some, slice_get}
use Rattle.std.specs.List.{flat_map}
use Rattle.verbs_types.specs.declared.call.Call.{Call}
use Rattle.verbs_types.specs.declared.request.Item.{Item}
use Rattle.verbs_rules.specs.Shape.{Shape, Posts, shape_of}

abbrev pub list_in : Shape → List (List Item)
list_in (Posts queue items) = items ∷ []
list_in _ = []

-- the list of a call that posts, and none of another
abbrev pub list_of : Call → List (List Item)
list_of call = list_in (shape_of call)

-- the lists that are left to be posted where `behind` calls are behind
abbrev pub lists_from : List Call → ℕ → List (List Item)
lists_from calls behind = flat_map list_of (drop behind calls)

-- The next list is that of the call at this place.
pub record IsNext (calls : List Call) (behind place : ℕ) (items : List Item) : Type 0 where
  pub call : Call
  pub there : slice_get calls place ≡ Some call
  pub list : list_of call ≡ items ∷ []
  pub first : lists_from calls behind ≡ items ∷ lists_from calls (place + 1)

-- The next list was taken: its call is behind now, and all before it.
pub record TakesNext (calls : List Call) (old new : ℕ) (items : List Item) : Type 0 where
  pub place : ℕ
  pub next : IsNext calls old place items
  pub new_is : new ≡ place + 1
