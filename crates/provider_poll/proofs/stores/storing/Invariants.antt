use Rattle.std.proofs.Common.{◌≡◌}
use Rattle.arrayvec.specs.ArrayVec.{array_vec_len}
use Rattle.provider_poll.specs.Stores.{from_ready}
use Rattle.provider_poll.proofs.stores.storing.Given as goal

-- those that were passed may not be stored
abbrev pub invariant-loop-left : goal.invariant-loop-left
invariant-loop-left l = from_ready l.queues l.left.items ≡ from_ready l.queues l.fn.left.items

abbrev pub decreases-loop-left : goal.decreases-loop-left
decreases-loop-left l = array_vec_len l.left
