-- What a history says of a work queue and of a completion queue, in its order.
use Rattle.std.specs.Prelude.{ℕ, ◌==◌, if◌then◌else◌, List, [], ◌∷◌, ◌++◌}
use Rattle.std.specs.List.{filter}
use Rattle.verbs_types.specs.declared.completion.Completion.{Completion}
use Rattle.verbs_types.specs.declared.completion.Queue.{Queue}
use Rattle.verbs_types.specs.declared.entry.Entry.{Entry}
use Rattle.verbs_types.specs.declared.entry.What.{What}
use Rattle.verbs_types.specs.declared.entry.What.TheVariants.{Post, Poll, Publish}
use Rattle.verbs_types.specs.declared.request.Item.{Item}
use Rattle.verbs_rules.specs.Same.{same_queue}

-- what all entries say, one after another
abbrev pub over : {X : Type 0} → (What → List X) → List Entry → List X
over says [] = []
over says (e ∷ history) = says e.what ++ over says history

-- the completions of this work queue's requests
abbrev pub of_queue : Queue → List Completion → List Completion
of_queue queue completions = filter (λ (x : Completion). same_queue queue x.queue) completions

abbrev pub posts_on : Queue → What → List Item
posts_on queue (Post other items) = if same_queue queue other then items else []
posts_on queue _ = []

abbrev pub publishes : What → List Completion
publishes (Publish cq completion) = completion ∷ []
publishes _ = []

abbrev pub polls : What → List Completion
polls (Poll cq most completions) = completions
polls _ = []

abbrev pub publishes_on : ℕ → What → List Completion
publishes_on cq (Publish other completion) = if cq == other then completion ∷ [] else []
publishes_on cq _ = []

abbrev pub polls_from : ℕ → What → List Completion
polls_from cq (Poll other most completions) = if cq == other then completions else []
polls_from cq _ = []

-- the requests posted on a work queue
abbrev pub posted_on : Queue → List Entry → List Item
posted_on queue history = over (posts_on queue) history

-- the completions of a work queue's requests that the adapter wrote, whatever the completion queue
abbrev pub published_of : Queue → List Entry → List Completion
published_of queue history = over (λ (w : What). of_queue queue (publishes w)) history

-- the completions of a work queue's requests that polls took, whatever the completion queue
abbrev pub polled_of : Queue → List Entry → List Completion
polled_of queue history = over (λ (w : What). of_queue queue (polls w)) history

-- the completions that the adapter wrote to a completion queue
abbrev pub published_on : ℕ → List Entry → List Completion
published_on cq history = over (publishes_on cq) history

-- the completions that polls took from a completion queue
abbrev pub polled_from : ℕ → List Entry → List Completion
polled_from cq history = over (polls_from cq) history
