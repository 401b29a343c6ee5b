-- What holds of every legal history from the state in which a run of declared objects begins.
use Rattle.std.specs.Prelude.{◌≡◌, ℕ, List, [], ◌∷◌, ◌++◌, length, map, take, fold}
use Rattle.std.specs.List.{AllByRecursion}
use Rattle.verbs_types.specs.declared.completion.Completion.{Completion}
use Rattle.verbs_types.specs.declared.completion.Queue.{Queue}
use Rattle.verbs_types.specs.declared.declaration.Lines.{Lines}
use Rattle.verbs_types.specs.declared.entry.Entry.{Entry}
use Rattle.verbs_types.specs.declared.entry.What.TheVariants.{Poll}
use Rattle.verbs_types.specs.declared.state.Act.{Act}
use Rattle.verbs_types.specs.declared.state.Act.TheVariants.{Complete}
use Rattle.verbs_types.specs.declared.state.Unpolled.{Unpolled}
use Rattle.verbs_rules.specs.Legal.{IsLegal}
use Rattle.verbs_rules.specs.Start.{start}
use Rattle.verbs_rules.specs.State.{Verbs}
use Rattle.verbs_rules.specs.Step.{after_entry}
use Rattle.history_laws.specs.Answer.{AnswerInOrder, AnswerAll, AnswersOne}
use Rattle.history_laws.specs.Said.{of_queue, posted_on, published_of, polled_of, published_on, polled_from}

-- the state that a history leads to
abbrev pub state_after : Lines → List Entry → Verbs
state_after d history = fold after_entry (start d) history

abbrev pub completion_of : Unpolled → Completion
completion_of u = u.completion

abbrev pub owed_completion : Act → Completion
owed_completion (Complete cq u) = u.completion

-- the completions of a completion queue that no poll took, the oldest first
abbrev pub waiting_on : Verbs → ℕ → List Completion
waiting_on v cq = map completion_of (v.unpolled cq)

-- the completions of a work queue's requests that the adapter still owes
abbrev pub owed_of : Verbs → Queue → List Completion
owed_of v queue = of_queue queue (map owed_completion v.device.owed)

-- The completions of a work queue's requests that polls took answer, in order, requests that were posted on it: each has its request's id, none is doubled, and none overtakes another.
abbrev pub IdsComeBack : Type 0
IdsComeBack = (d : Lines) (history : List Entry) (queue : Queue) → IsLegal (start d) history → AnswerInOrder (polled_of queue history) (posted_on queue history)

-- Each completion that a poll takes answers a request that was posted on its work queue before the poll.
abbrev pub EachWasPosted : Type 0
EachWasPosted =
    (d : Lines) (before later : List Entry) (actor cq most : ℕ) (completions : List Completion) → IsLegal (start d) (before ++ record { actor = actor; what = Poll cq most completions } ∷ later)
    → AllByRecursion (λ (x : Completion). AnswersOne (posted_on x.queue before) x) completions

-- The completions that were written to a completion queue are those that polls took from it, and then those that wait there.
abbrev pub NoneIsLost : Type 0
NoneIsLost = (d : Lines) (history : List Entry) (cq : ℕ) → IsLegal (start d) history → published_on cq history ≡ polled_from cq history ++ waiting_on (state_after d history) cq

-- Of the requests that the adapter took from a work queue, each that wants a completion has one: it was written, or the adapter owes it.
abbrev pub NoneIsForgotten : Type 0
NoneIsForgotten =
    (d : Lines) (history : List Entry) (queue : Queue) → IsLegal (start d) history
    → AnswerAll (published_of queue history ++ owed_of (state_after d history) queue) (take ((state_after d history).device.taken queue) (posted_on queue history))

-- the adapter took all that was posted on the work queue and owes nothing, and no completion waits
pub record IsAtRest (v : Verbs) (queue : Queue) : Type 0 where
  pub taken : (v.device.taken queue) ≡ length (v.posted queue)
  pub nothing_owed : v.device.owed ≡ []
  pub nothing_waits : (cq : ℕ) → waiting_on v cq ≡ []

-- Of a work queue at rest, polls took the completion of every request that wants one, and of each just once.
abbrev pub AllComeBack : Type 0
AllComeBack = (d : Lines) (history : List Entry) (queue : Queue) → IsLegal (start d) history → IsAtRest (state_after d history) queue → AnswerAll (polled_of queue history) (posted_on queue history)
