-- What each entry does to the requests of a work queue.
use Rattle.std.proofs.Common.{◌≡◌, ℕ, ◌||◌, ◌==◌, Bool, true, false, not, if◌then◌else◌, refl, sym, ap, ◌∙◌, subst, inl, List, [], ◌∷◌, ◌++◌, map, append-nil}
use Rattle.std.specs.Prelude.{Option, None, Some}
use Rattle.std.proofs.lemmas.Bool.{cond-true, cond-false, false≢true}
use Rattle.verbs_types.specs.declared.completion.Completion.{Completion}
use Rattle.verbs_types.specs.declared.completion.Queue.{Queue}
use Rattle.verbs_types.specs.declared.completion.Queue.TheVariants.{Send}
use Rattle.verbs_types.specs.declared.request.Item.{Item}
use Rattle.verbs_types.specs.declared.request.Item.TheVariants.{Request as TheRequest, Receive as TheReceive}
use Rattle.verbs_types.specs.declared.request.Request.{Request}
use Rattle.verbs_types.specs.declared.state.Act.{Act}
use Rattle.verbs_types.specs.declared.state.Act.TheVariants.{Complete}
use Rattle.verbs_types.specs.declared.state.QueuePair.{QueuePair}
use Rattle.verbs_types.specs.declared.state.Unpolled.{Unpolled}
use Rattle.verbs_rules.specs.Family.{put}
use Rattle.verbs_rules.specs.Rows.{acts_of, can_do, nop_completion, status_of}
use Rattle.verbs_rules.specs.Same.{same_queue}
use Rattle.verbs_laws.proofs.Sameness.{same_queue-true, same_queue_refl}
use Rattle.history_laws.specs.Answer.{AnswerAll, wants}
use Rattle.history_laws.specs.Laws.{owed_completion}
use Rattle.history_laws.specs.Said.{of_queue}

-- the requests of a queue after a post on any queue: some more, or those that it had
pub post_grows : (f : Queue → List Item) (queue : Queue) (items : List Item) (q : Queue) → put same_queue f queue (f queue ++ items) q ≡ f q ++ (if same_queue q queue then items else [])
post_grows f queue items q = by (same_queue q queue) refl
  where
    by : (b : Bool) → same_queue q queue ≡ b → (if b then f queue ++ items else f q) ≡ f q ++ (if b then items else [])
    by true e = ap (λ k. f k ++ items) (sym (same_queue-true q queue e))
    by false e = sym (append-nil (f q))

pub can_do-true : (o : Option Item) → can_do o ≡ true → (r : Request) × (o ≡ Some (TheRequest r))
can_do-true None h = absurd (false≢true h)
can_do-true (Some (TheReceive r)) h = absurd (false≢true h)
can_do-true (Some (TheRequest r)) h = (r, refl)

-- what is owed for a request answers it
owed_if : (queue : Queue) (x : Completion) (act : Act) (item : Item) (b : Bool) → owed_completion act ≡ x → same_queue queue x.queue ≡ true → (b ≡ true → AnswerAll (x ∷ []) (item ∷ [])) → (b ≡ false → wants item ≡ false)
    → AnswerAll (of_queue queue (map owed_completion (if b then act ∷ [] else []))) (item ∷ [])
owed_if queue x act item true is own due free =
    let one : of_queue queue (owed_completion act ∷ []) ≡ x ∷ [] = ap (λ y. of_queue queue (y ∷ [])) is ∙ cond-true (same_queue queue x.queue) (x ∷ []) [] own in
    subst (λ ys. AnswerAll ys (item ∷ [])) (sym one) (due refl)
owed_if queue x act item false is own due free = (free refl, tt)

unwanted : (a b : Bool) → (a || b) ≡ false → a ≡ false
unwanted true b h = absurd (false≢true (sym h))
unwanted false b h = refl

pub acts_answer : (pair : QueuePair) (qp number : ℕ) (r : Request) → AnswerAll (of_queue (Send qp) (map owed_completion (acts_of pair qp number (Some (TheRequest r))))) (TheRequest r ∷ [])
acts_answer pair qp number r =
    let status = status_of pair.state in
    let x : Completion = nop_completion qp r.id status in
    owed_if
    (Send qp)
    x
    (Complete pair.send_cq (record { completion = x; number = number }))
    (TheRequest r)
    (r.wanted || not (status == 0))
    refl
    (same_queue_refl (Send qp))
    (λ due. inl (record { id = refl; due = due }, tt))
    (λ free. unwanted r.wanted (not (status == 0)) free)

owed_if_other : (q : Queue) (act : Act) (b : Bool) → same_queue q (owed_completion act).queue ≡ false → of_queue q (map owed_completion (if b then act ∷ [] else [])) ≡ []
owed_if_other q act true other = cond-false (same_queue q (owed_completion act).queue) (owed_completion act ∷ []) [] other
owed_if_other q act false other = refl

-- nothing is owed for another queue
pub acts_of_others : (pair : QueuePair) (qp number : ℕ) (o : Option Item) (q : Queue) → same_queue q (Send qp) ≡ false → of_queue q (map owed_completion (acts_of pair qp number o)) ≡ []
acts_of_others pair qp number None q other = refl
acts_of_others pair qp number (Some (TheReceive r)) q other = refl
acts_of_others pair qp number (Some (TheRequest r)) q other =
    owed_if_other q (Complete pair.send_cq (record { completion = nop_completion qp r.id (status_of pair.state); number = number })) (r.wanted || not (status_of pair.state == 0)) other
