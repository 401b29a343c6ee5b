-- Those of the lines so far.
use Rattle.device_engine.specs.First.{AreFirstQueues}
use Rattle.device_engine.proofs.start.first_queues.Given as goal

abbrev pub invariant-loop-place : goal.invariant-loop-place
invariant-loop-place l = AreFirstQueues l.fn.d l.place l.queues.items
