-- What a poll takes was posted before.
use Rattle.std.proofs.Common.{◌≡◌, ℕ, zero, suc, refl, sym, ap, ◌∙◌, subst, inl, inr, List, [], ◌∷◌, ◌++◌, append-nil, append_assoc}
use Rattle.std.specs.List.{AllByRecursion}
use Rattle.std.proofs.lemmas.Bool.{cases_Bool, cond-true, cond-false}
use Rattle.bus_core.specs.Follow.{Follows}
use Rattle.verbs_types.specs.declared.completion.Completion.{Completion}
use Rattle.verbs_types.specs.declared.completion.Queue.{Queue}
use Rattle.verbs_types.specs.declared.entry.Entry.{Entry}
use Rattle.verbs_types.specs.declared.entry.What.{What}
use Rattle.verbs_types.specs.declared.entry.What.TheVariants.{Poll}
use Rattle.verbs_types.specs.declared.request.Item.{Item}
use Rattle.verbs_rules.specs.Legal.{IsLegal}
use Rattle.verbs_rules.specs.Same.{same_queue}
use Rattle.verbs_rules.specs.Start.{start}
use Rattle.verbs_rules.specs.Step.{MayStep, after_entry}
use Rattle.verbs_laws.proofs.Sameness.{same_queue_refl}
use Rattle.history_laws.specs.Answer.{AnswerInOrder, AnswersOne}
use Rattle.history_laws.specs.Laws.{EachWasPosted}
use Rattle.history_laws.specs.Said.{over, of_queue, polls, posts_on, posted_on, polled_of}
use Rattle.history_laws.proofs.Homes.{all_front, all_back}
use Rattle.history_laws.proofs.Keeping.{ids_come_back}

-- a front of a list that is allowed
Follows_front : {S E : Type 0} (allowed : S → E → Type 0) (next : S → E → S) (s : S) (xs ys : List E) → Follows allowed next s (xs ++ ys) → Follows allowed next s xs
Follows_front allowed next s [] ys h = tt
Follows_front allowed next s (x ∷ xs) ys h = (h.0, Follows_front allowed next (next s x) xs ys h.1)

over-append : {X : Type 0} (says : What → List X) (xs ys : List Entry) → over says (xs ++ ys) ≡ over says xs ++ over says ys
over-append says [] ys = refl
over-append says (e ∷ xs) ys = ap (λ zs. says e.what ++ zs) (over-append says xs ys) ∙ sym (append_assoc (says e.what) (over says xs) (over says ys))

one_later : (item : Item) (items : List Item) (xs : List Completion) → AllByRecursion (AnswersOne items) xs → AllByRecursion (AnswersOne (item ∷ items)) xs
one_later item items [] h = tt
one_later item items (x ∷ xs) h = (record { place = suc h.0.place; item = h.0.item; there = h.0.there; answers = h.0.answers }, one_later item items xs h.1)

each_answers : (xs : List Completion) (items : List Item) → AnswerInOrder xs items → AllByRecursion (AnswersOne items) xs
each_answers [] items h = tt
each_answers (x ∷ xs) [] h = absurd h
each_answers (x ∷ xs) (item ∷ items) (inl h) = (record { place = zero; item = item; there = refl; answers = h.0 }, one_later item items xs (each_answers xs items h.1))
each_answers (x ∷ xs) (item ∷ items) (inr h) = one_later item items (x ∷ xs) (each_answers (x ∷ xs) items h.1)

-- what holds of the completions of each work queue holds of all
module _ (P : Queue → Completion → Type 0) where
  others_hold : (x : Completion) (xs : List Completion) (q : Queue) → AllByRecursion (P q) (of_queue q (x ∷ xs)) → AllByRecursion (P q) (of_queue q xs)
  others_hold x xs q h =
      elim (cases_Bool (same_queue q x.queue)) [
        | inl same ↦ (subst (AllByRecursion (P q)) (cond-true (same_queue q x.queue) (x ∷ of_queue q xs) (of_queue q xs) same) h).1
        | inr other ↦ subst (AllByRecursion (P q)) (cond-false (same_queue q x.queue) (x ∷ of_queue q xs) (of_queue q xs) other) h
      ]

  all_by_queue : (xs : List Completion) → ((q : Queue) → AllByRecursion (P q) (of_queue q xs)) → AllByRecursion (λ (x : Completion). P x.queue x) xs
  all_by_queue [] h = tt
  all_by_queue (x ∷ xs) h =
      let own : of_queue x.queue (x ∷ xs) ≡ x ∷ of_queue x.queue xs = cond-true (same_queue x.queue x.queue) (x ∷ of_queue x.queue xs) (of_queue x.queue xs) (same_queue_refl x.queue) in
      ((subst (AllByRecursion (P x.queue)) own (h x.queue)).0, all_by_queue xs (λ q. others_hold x xs q (h q)))

-- a history up to a poll
abbrev with_poll : List Entry → ℕ → ℕ → ℕ → List Completion → List Entry
with_poll before actor cq most xs = before ++ record { actor = actor; what = Poll cq most xs } ∷ []

of_one : (q : Queue) (before : List Entry) (actor cq most : ℕ) (xs : List Completion) → AnswerInOrder (polled_of q (with_poll before actor cq most xs)) (posted_on q (with_poll before actor cq most xs)) → AllByRecursion (AnswersOne (posted_on q before)) (of_queue q xs)
of_one q before actor cq most xs answer =
    let poll : List Entry = record { actor = actor; what = Poll cq most xs } ∷ [] in
    let posted : posted_on q (before ++ poll) ≡ posted_on q before = over-append (posts_on q) before poll ∙ append-nil (posted_on q before) in
    let polled : polled_of q (before ++ poll) ≡ polled_of q before ++ (of_queue q xs ++ []) = over-append (λ w. of_queue q (polls w)) before poll in
    let now : AnswerInOrder (polled_of q before ++ (of_queue q xs ++ [])) (posted_on q before) = subst (λ ps. AnswerInOrder (polled_of q before ++ (of_queue q xs ++ [])) ps) posted (subst (λ ls. AnswerInOrder ls (posted_on q (before ++ poll))) polled answer) in
    let each = each_answers (polled_of q before ++ (of_queue q xs ++ [])) (posted_on q before) now in
    all_front (AnswersOne (posted_on q before)) (of_queue q xs) [] (all_back (AnswersOne (posted_on q before)) (polled_of q before) (of_queue q xs ++ []) each)

pub each_was_posted : EachWasPosted
each_was_posted d before later actor cq most xs legal =
    let poll : List Entry = record { actor = actor; what = Poll cq most xs } ∷ [] in
    let now : IsLegal (start d) (before ++ poll) = Follows_front MayStep after_entry (start d) (before ++ poll) later (subst (IsLegal (start d)) (sym (append_assoc before poll later)) legal) in
    all_by_queue (λ q x. AnswersOne (posted_on q before) x) xs (λ q. of_one q before actor cq most xs (ids_come_back d (before ++ poll) q now))
