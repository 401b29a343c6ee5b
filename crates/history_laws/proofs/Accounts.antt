-- The account of a work queue: what it has, what its completion queue has, and what the history said so far.
use Rattle.std.proofs.Common.{◌≡◌, ℕ, zero, suc, ◌+◌, ◌-◌, ◌≤◌, sym, ap, ◌∙◌, subst, arith, List, [], ◌∷◌, ◌++◌, length, take, drop, length-append, append-nil, append_assoc}
use Rattle.std.specs.Prelude.{Some, slice_get}
use Rattle.std.proofs.lemmas.List.{take-append-drop, take-append-le, take_all}
use Rattle.std.proofs.lemmas.Option.{slice_get_within}
use Rattle.std.proofs.Math.Numerals.{add-one}
use Rattle.verbs_types.specs.declared.completion.Completion.{Completion}
use Rattle.verbs_types.specs.declared.request.Item.{Item}
use Rattle.history_laws.specs.Answer.{AnswerInOrder, AnswerAll}
use Rattle.history_laws.proofs.Answering.{all-append, front_in_order}

-- the work queue's requests, how many were taken, the completions owed for it and those that wait; and what was said of posts, publications and polls
pub record Account (requests : List Item) (taken : ℕ) (owed waiting : List Completion) (posted : List Item) (published polled : List Completion) : Type 0 where
  pub posts : requests ≡ posted
  pub reached : taken ≤ length requests
  pub answered : AnswerAll (published ++ owed) (take taken requests)
  pub balanced : polled ++ waiting ≡ published

take_next : {X : Type 0} (xs : List X) (n : ℕ) (x : X) → slice_get xs n ≡ Some x → take (suc n) xs ≡ take n xs ++ x ∷ []
take_next [] n x h = absurd (cc)
take_next (y ∷ xs) zero x h = let same : y ≡ x = cc in ap (λ z. z ∷ []) same
take_next (y ∷ xs) (suc n) x h = ap (λ zs. y ∷ zs) (take_next xs n x h)

module _ (requests : List Item) (taken : ℕ) (owed waiting : List Completion) (posted : List Item) (published polled : List Completion) where
  -- nothing was said
  pub quiet : Account requests taken owed waiting posted published polled → Account requests taken owed waiting (posted ++ []) (published ++ []) (polled ++ [])
  quiet a =
      subst (λ ps. Account requests taken owed waiting ps (published ++ []) (polled ++ [])) (sym (append-nil posted))
      (subst (λ bs. Account requests taken owed waiting posted bs (polled ++ [])) (sym (append-nil published))
      (subst (λ ls. Account requests taken owed waiting posted published ls) (sym (append-nil polled)) a))

  -- these were posted
  pub posts_more : (items : List Item) → Account requests taken owed waiting posted published polled → Account (requests ++ items) taken owed waiting (posted ++ items) (published ++ []) (polled ++ [])
  posts_more items a =
      subst (λ bs. Account (requests ++ items) taken owed waiting (posted ++ items) bs (polled ++ [])) (sym (append-nil published))
      (subst (λ ls. Account (requests ++ items) taken owed waiting (posted ++ items) published ls) (sym (append-nil polled))
      (record {
        posts = ap (λ ps. ps ++ items) a.posts;
        reached = let long = length-append requests items in omega (arith, long, a.reached);
        answered = subst (AnswerAll (published ++ owed)) (sym (take-append-le taken requests items a.reached)) a.answered;
        balanced = a.balanced;
      }))

  -- these were written
  pub writes : (xs : List Completion) → Account requests taken (xs ++ owed) waiting posted published polled → Account requests taken owed (waiting ++ xs) (posted ++ []) (published ++ xs) (polled ++ [])
  writes xs a =
      subst (λ ps. Account requests taken owed (waiting ++ xs) ps (published ++ xs) (polled ++ [])) (sym (append-nil posted))
      (subst (λ ls. Account requests taken owed (waiting ++ xs) posted (published ++ xs) ls) (sym (append-nil polled))
      (record {
        posts = a.posts;
        reached = a.reached;
        answered = subst (λ ys. AnswerAll ys (take taken requests)) (sym (append_assoc published xs owed)) a.answered;
        balanced = sym (append_assoc polled waiting xs) ∙ ap (λ bs. bs ++ xs) a.balanced;
      }))

  -- these were polled
  pub polls_some : (xs : List Completion) → Account requests taken owed (xs ++ waiting) posted published polled → Account requests taken owed waiting (posted ++ []) (published ++ []) (polled ++ xs)
  polls_some xs a =
      subst (λ ps. Account requests taken owed waiting ps (published ++ []) (polled ++ xs)) (sym (append-nil posted))
      (subst (λ bs. Account requests taken owed waiting posted bs (polled ++ xs)) (sym (append-nil published))
      (record {
        posts = a.posts;
        reached = a.reached;
        answered = a.answered;
        balanced = append_assoc polled xs waiting ∙ a.balanced;
      }))

  -- the next request was taken, and this is owed for it
  pub takes_next : (n : ℕ) (item : Item) (xs : List Completion) → owed ≡ [] → n ≡ taken + 1 → slice_get requests (n - 1) ≡ Some item → AnswerAll xs (item ∷ [])
      → Account requests taken owed waiting posted published polled → Account requests n xs waiting posted published polled
  takes_next n item xs idle next there answer a =
      let place : n - 1 ≡ taken = omega arith in
      let found : slice_get requests taken ≡ Some item = ap (slice_get requests) (sym place) ∙ there in
      let more : take n requests ≡ take taken requests ++ item ∷ [] = ap (λ m. take m requests) (next ∙ add-one taken) ∙ take_next requests taken item found in
      let all_before : AnswerAll published (take taken requests) = subst (λ ys. AnswerAll ys (take taken requests)) (ap (λ os. published ++ os) idle ∙ append-nil published) a.answered in
      record {
        posts = a.posts;
        reached = let inside = slice_get_within requests taken item found in omega (arith, inside, next);
        answered = subst (AnswerAll (published ++ xs)) (sym more) (all-append published xs (take taken requests) (item ∷ []) all_before answer);
        balanced = a.balanced;
      }

  -- what an account says
  pub in_order : Account requests taken owed waiting posted published polled → AnswerInOrder polled posted
  in_order a =
      let all : AnswerAll (polled ++ (waiting ++ owed)) (take taken requests) = subst (λ ys. AnswerAll ys (take taken requests)) (ap (λ bs. bs ++ owed) (sym a.balanced) ∙ append_assoc polled waiting owed) a.answered in
      subst (AnswerInOrder polled) (take-append-drop taken requests ∙ a.posts) (front_in_order polled (waiting ++ owed) (take taken requests) (drop taken requests) all)

  pub all_answered : Account requests taken owed waiting posted published polled → AnswerAll (published ++ owed) (take taken posted)
  all_answered a = subst (λ ps. AnswerAll (published ++ owed) (take taken ps)) a.posts a.answered

  pub at_rest : owed ≡ [] → waiting ≡ [] → taken ≡ length requests → Account requests taken owed waiting posted published polled → AnswerAll polled posted
  at_rest nothing_owed nothing_waits all_taken a =
      let written : published ++ owed ≡ polled = ap (λ os. published ++ os) nothing_owed ∙ (append-nil published ∙ (sym a.balanced ∙ (ap (λ ws. polled ++ ws) nothing_waits ∙ append-nil polled))) in
      let all : take taken requests ≡ posted = ap (λ n. take n requests) all_taken ∙ (take_all (length requests) requests (omega arith) ∙ a.posts) in
      subst (AnswerAll polled) all (subst (λ ys. AnswerAll ys (take taken requests)) written a.answered)
