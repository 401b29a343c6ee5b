use Rattle.std.proofs.Common.{◌≡◌, ℕ, List, Option, length}
use Rattle.provider_poll.specs.SendQueue.{SendView}
use Rattle.provider_poll.specs.SendQueues.{HasEachPlace}
use Rattle.provider_poll.proofs.Fresh.{so_far}
use Rattle.provider_poll.proofs.senders.fresh_queues.Given as goal

-- after so many queue pairs, of which these are the queues so far
pub record AreSoFar (places : List (Option ℕ)) (queues so_far : List SendView) (pairs : ℕ) : Type 0 where
  pub queues_are : queues ≡ so_far
  pub place_each : length places ≡ pairs
  pub has : HasEachPlace places queues

abbrev pub invariant-loop-pair : goal.invariant-loop-pair
invariant-loop-pair l = AreSoFar l.places.items l.queues.items (so_far l.d l.object l.pair) l.pair
