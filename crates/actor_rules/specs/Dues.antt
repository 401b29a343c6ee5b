-- What a thread still owes, by its calls and how far it has come.
use Rattle.std.specs.Prelude.{ℕ, zero, suc, ◌-◌, ◌++◌, Bool, true, false, List, [], ◌∷◌, map, replicate, take, flat_map, slice_index_or, Option, None, Some, is_some, if◌then◌else◌}
use Rattle.verbs_types.specs.declared.call.Call.{Call}
use Rattle.verbs_types.specs.declared.completion.Queue.{Queue}
use Rattle.verbs_types.specs.declared.completion.Queue.TheVariants as queues
use Rattle.verbs_types.specs.declared.declaration.Lines.{Lines}
use Rattle.verbs_types.specs.declared.request.Item.{Item}
use Rattle.verbs_rules.specs.Shape.{Shape, Taking, Posts, Takes, Once, Until, shape_of}
use Rattle.verbs_rules.specs.Answered.{Due, Posting, Accepting, Polling, Draining, Retiring, Acking, due_by}
use Rattle.provider_post.specs.declared.call.Call as post
use Rattle.provider_poll.specs.declared.state.End.{End}
use Rattle.provider_poll.specs.declared.state.PollState.{PollState}
use Rattle.provider_poll.specs.declared.state.PollState.TheVariants as states
use Rattle.provider_poll.specs.Rule.{PollRule}
use Rattle.provider_poll.specs.Fresh.{senders}
use Rattle.actor_rules.specs.Thread.{Thread}

-- what the thread of a number owes, where the threads owe this in order; they are numbered from 1
abbrev pub dues_at : List (List Due) → ℕ → List Due
dues_at dues zero = []
dues_at dues (suc t) = slice_index_or dues t []

-- a post whose record is stored owes nothing; one that was refused owes what was accepted
abbrev pub post_dues : Queue → List Item → Option post.Call → List Due
post_dues queue items None = Posting queue items ∷ []
post_dues queue items (Some call) = if call.recorded then [] else if is_some call.refused then Accepting queue (take call.accepted items) ∷ [] else Posting queue items ∷ []

-- the queue of an end, and what stands to be stored
abbrev pub retiring : Lines → ℕ → End → Due
retiring d cq end = Retiring (queues.Send (slice_index_or (senders d cq) end.queue 0))

abbrev pub store_dues : Lines → ℕ → PollState → List Due
store_dues d cq (states.Retiring taken empty left) = map (retiring d cq) left.items ++ Acking cq ∷ []
store_dues d cq (states.Acking taken empty) = Acking cq ∷ []
store_dues d cq _ = []

-- the poll's loads are over
abbrev pub is_storing : PollState → Bool
is_storing (states.Retiring taken empty left) = true
is_storing (states.Acking taken empty) = true
is_storing _ = false

abbrev pub poll_dues : Lines → ℕ → ℕ → PollState → List Due
poll_dues d cq most state = if is_storing state then store_dues d cq state else Polling cq most ∷ []

abbrev pub drain_dues : Lines → ℕ → ℕ → PollState → List Due
drain_dues d cq count state = if is_storing state then store_dues d cq state ++ replicate (count - 1) (Draining cq) else replicate count (Draining cq)

abbrev pub take_dues : Lines → ℕ → Taking → PollState → List Due
take_dues d cq (Once most) state = poll_dues d cq most state
take_dues d cq (Until count) state = drain_dues d cq count state

-- of the call under way
abbrev pub dues_in : Lines → Option post.Call → (ℕ → PollRule) → Shape → List Due
dues_in d posting polls (Posts queue items) = post_dues queue items posting
dues_in d posting polls (Takes cq taking) = take_dues d cq taking (polls cq).state

-- of the first call that is left, and of the others
abbrev pub dues_of : Lines → Option post.Call → (ℕ → PollRule) → List Call → List Due
dues_of d posting polls [] = []
dues_of d posting polls (call ∷ rest) = dues_in d posting polls (shape_of call) ++ flat_map due_by rest

abbrev pub call_dues : Lines → Thread → List Call → List Due
call_dues d t calls = dues_of d t.posting t.polls calls

abbrev pub thread_dues : Lines → Thread → List Due
thread_dues d t = call_dues d t t.calls
