-- Completions that answer requests, as both lists grow.
use Rattle.std.proofs.Common.{inl, inr, List, [], ◌∷◌, ◌++◌}
use Rattle.verbs_types.specs.declared.completion.Completion.{Completion}
use Rattle.verbs_types.specs.declared.request.Item.{Item}
use Rattle.history_laws.specs.Answer.{AnswerInOrder, AnswerAll}

-- more completions answer more requests
pub all-append : (xs ys : List Completion) (items more : List Item) → AnswerAll xs items → AnswerAll ys more → AnswerAll (xs ++ ys) (items ++ more)
all-append [] ys [] more h k = k
all-append (x ∷ xs) ys [] more h k = absurd h
all-append [] [] (item ∷ items) more h k = (h.0, all-append [] [] items more h.1 k)
all-append [] (y ∷ ys) (item ∷ items) more h k = inr (h.0, all-append [] (y ∷ ys) items more h.1 k)
all-append (x ∷ xs) ys (item ∷ items) more (inl h) k = inl (h.0, all-append xs ys items more h.1 k)
all-append (x ∷ xs) ys (item ∷ items) more (inr h) k = inr (h.0, all-append (x ∷ xs) ys items more h.1 k)

-- the front of completions that answer all requests answers a front of these, and more
pub front_in_order : (xs ys : List Completion) (items more : List Item) → AnswerAll (xs ++ ys) items → AnswerInOrder xs (items ++ more)
front_in_order [] ys items more h = tt
front_in_order (x ∷ xs) ys [] more h = absurd h
front_in_order (x ∷ xs) ys (item ∷ items) more (inl h) = inl (h.0, front_in_order xs ys items more h.1)
front_in_order (x ∷ xs) ys (item ∷ items) more (inr h) = inr (h.0, front_in_order (x ∷ xs) ys items more h.1)
