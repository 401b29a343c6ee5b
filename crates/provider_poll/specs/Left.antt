-- How many turns a poll takes at most from here on.
use Rattle.std.specs.Prelude.{ℕ, ◌+◌, ◌-◌, ◌*◌, List, length, get_or}
use Rattle.owner_ring.specs.Consumer.{Consumer}
use Rattle.cq_pair.specs.HostView.{poll_turns}
use Rattle.counted_ring.specs.Retirer.{Retirer}
use Rattle.counted_ring.specs.RetirerView.{lookup_turns}
use Rattle.provider_poll.specs.declared.state.PollState.{PollState}
use Rattle.provider_poll.specs.declared.state.PollState.TheVariants.{Idle, Polling, LookingUp, Retiring, Acking}
use Rattle.provider_poll.specs.SendQueue.{fresh_retirer}

-- an entry takes eight loads and a lookup of two, and then a store; the consumer index is stored last
abbrev pub after_entry : ℕ → ℕ → ℕ
after_entry max taken = 11 * (max - taken - 1) + taken + 2

abbrev pub asked_turns : List Retirer → ℕ → ℕ
asked_turns rs queue = lookup_turns (get_or rs queue fresh_retirer).asked

abbrev pub poll_left : Consumer → List Retirer → PollState → ℕ
poll_left c rs Idle = 0
poll_left c rs (Polling max ends) = poll_turns c + 2 + after_entry max (length ends.items)
poll_left c rs (LookingUp max ends completion queue) = asked_turns rs queue + after_entry max (length ends.items)
poll_left c rs (Retiring taken empty left) = length left.items + 1
poll_left c rs (Acking taken empty) = 1
