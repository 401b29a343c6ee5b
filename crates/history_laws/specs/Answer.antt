-- Which completions answer which requests.
use Rattle.std.specs.Prelude.{◌≡◌, ℕ, ◌⊎◌, ◌||◌, ◌==◌, Bool, true, false, not, List, [], ◌∷◌, Some, slice_get}
use Rattle.verbs_types.specs.declared.completion.Completion.{Completion}
use Rattle.verbs_types.specs.declared.request.Item.{Item}
use Rattle.verbs_types.specs.declared.request.Item.TheVariants.{Request as TheRequest, Receive as TheReceive}

abbrev pub id_of : Item → ℕ
id_of (TheRequest r) = r.id
id_of (TheReceive r) = r.id

-- a completion is wanted even where the request succeeds; a receive always has one
abbrev pub wants : Item → Bool
wants (TheRequest r) = r.wanted
wants (TheReceive r) = true

abbrev pub failed : Completion → Bool
failed x = not (x.status == 0)

-- the completion gives back the request's id, and was wanted or tells of a failure
pub record Answers (x : Completion) (item : Item) : Type 0 where
  pub id : x.id ≡ id_of item
  pub due : (wants item || failed x) ≡ true

-- The completions answer requests in the order of posting, each at most once, and pass over none that wants one. Requests after the last that is answered are still to come.
abbrev pub AnswerInOrder : List Completion → List Item → Type 0
AnswerInOrder [] items = Unit {0}
AnswerInOrder (x ∷ xs) [] = ⊥
AnswerInOrder (x ∷ xs) (item ∷ items) = (Answers x item × AnswerInOrder xs items) ⊎ ((wants item ≡ false) × AnswerInOrder (x ∷ xs) items)

-- the same, and none that wants one is still to come
abbrev pub AnswerAll : List Completion → List Item → Type 0
AnswerAll [] [] = Unit {0}
AnswerAll (x ∷ xs) [] = ⊥
AnswerAll [] (item ∷ items) = (wants item ≡ false) × AnswerAll [] items
AnswerAll (x ∷ xs) (item ∷ items) = (Answers x item × AnswerAll xs items) ⊎ ((wants item ≡ false) × AnswerAll (x ∷ xs) items)

-- one of the requests, at this place from 0 on, is answered
pub record AnswersOne (items : List Item) (x : Completion) : Type 0 where
  pub place : ℕ
  pub item : Item
  pub there : slice_get items place ≡ Some item
  pub answers : Answers x item
