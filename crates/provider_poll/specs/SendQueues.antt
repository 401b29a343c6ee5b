-- Where the queue of each queue pair stands among those of a poll.
use Rattle.std.specs.Prelude.{ℕ, ◌≡◌, ◌-◌, nat_lt, if◌then◌else◌, List, get_or, Option, None}
use Rattle.verbs_types.specs.declared.declaration.TheConstants.{FIRST_QP}
use Rattle.provider_poll.specs.SendQueue.{SendView}
use Rattle.provider_poll.specs.PollStep.{place_of_number}

-- the place that these have for a queue pair
abbrev pub place_among : List (Option ℕ) → ℕ → Option ℕ
place_among places number = if nat_lt number FIRST_QP then None else get_or places (number - FIRST_QP) None

-- these are the places of all queue pairs' queues
abbrev pub HasEachPlace : List (Option ℕ) → List SendView → Type 0
HasEachPlace places queues = (number : ℕ) → place_among places number ≡ place_of_number queues number
