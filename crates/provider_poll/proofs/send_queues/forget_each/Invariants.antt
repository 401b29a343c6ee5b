use Rattle.std.proofs.Common.{◌≡◌, ◌++◌, map, take, drop}
use Rattle.provider_poll.specs.SendQueue.{forgotten_queue}
use Rattle.provider_poll.proofs.send_queues.forget_each.Given as goal

-- those so far forgot, and the others are as before
abbrev pub invariant-loop-queue : goal.invariant-loop-queue
invariant-loop-queue l = l.queues ≡ map forgotten_queue (take l.queue-index l.fn.queues) ++ drop l.queue-index l.fn.queues
