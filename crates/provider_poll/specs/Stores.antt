-- Which ends a poll stores: those of the completions that it took, in order.
use Rattle.std.specs.Prelude.{ℕ, Bool, true, false, List, [], ◌∷◌, slice_get, Option, Some, None, if◌then◌else◌}
use Rattle.provider_poll.specs.declared.state.End.{End}
use Rattle.provider_poll.specs.declared.state.PollState.{PollState}
use Rattle.provider_poll.specs.declared.state.PollState.TheVariants.{Retiring, Acking}
use Rattle.provider_poll.specs.SendQueue.{SendView, may_retire}

abbrev pub may_store_in : Option SendView → ℕ → Bool
may_store_in None end = false
may_store_in (Some q) end = may_retire q end

-- the queue of this end may store it
abbrev pub may_store : List SendView → End → Bool
may_store queues x = may_store_in (slice_get queues x.queue) x.end

abbrev pub is_ready : List SendView → List End → Bool
is_ready queues [] = true
is_ready queues (x ∷ xs) = may_store queues x

-- Those from the first on that may be stored. Words that no poster stores may give ends that may not.
abbrev pub from_ready : List SendView → List End → List End
from_ready queues [] = []
from_ready queues (x ∷ xs) = if may_store queues x then x ∷ xs else from_ready queues xs

abbrev pub storing_first : ℕ → Option ℕ → List End → PollState
storing_first taken empty [] = Acking taken empty
storing_first taken empty (x ∷ xs) = Retiring taken empty (record { items = x ∷ xs })

-- a poll before its next store
abbrev pub storing : List SendView → ℕ → Option ℕ → List End → PollState
storing queues taken empty ends = storing_first taken empty (from_ready queues ends)
