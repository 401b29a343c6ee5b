use Rattle.std.proofs.Common.{◌≡◌, replicate, None}
use Rattle.thread_actor.proofs.sides.none_of.Given as goal

abbrev pub invariant-loop : goal.invariant-loop
invariant-loop g l = l.sides.items ≡ replicate l.counter None
