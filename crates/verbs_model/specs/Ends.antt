-- What a poll adds to the work queues of the completions that it took.
use Rattle.std.specs.Prelude.{ℕ, ◌<◌, ◌≤◌, List, [], ◌∷◌, All, slice_index_or, slice_set}
use Rattle.verbs_types.specs.declared.state.Unpolled.{Unpolled}
use Rattle.verbs_model.specs.Held.{Held}
use Rattle.verbs_model.specs.Queues.{no_queue, with_end}
use Rattle.verbs_rules.specs.OfOne.{WorkQueue}
use Rattle.verbs_model.specs.Tables.{place_of}

abbrev pub no_held : Held
no_held = record { queue = no_queue; spare = 0 }

-- each completion's queue is one of the first `count`
abbrev pub ArePlaced : ℕ → List Unpolled → Type 0
ArePlaced count taken = All (λ (u : Unpolled). place_of u.completion.queue < count) taken

-- each completion's queue has room for `ends` more ends
abbrev pub HaveRoom : List Held → ℕ → List Unpolled → Type 0
HaveRoom queues ends taken = All (λ (u : Unpolled). ends ≤ (slice_index_or queues (place_of u.completion.queue) no_held).spare) taken

-- each completion adds its request's number to its queue
abbrev pub ended : List WorkQueue → List Unpolled → List WorkQueue
ended queues [] = queues
ended queues (u ∷ us) = ended (slice_set queues (place_of u.completion.queue) (with_end (slice_index_or queues (place_of u.completion.queue) no_queue) u.number)) us

abbrev pub queue_of : Held → WorkQueue
queue_of h = h.queue
