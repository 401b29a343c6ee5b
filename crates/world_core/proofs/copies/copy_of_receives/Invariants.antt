-- Those passed so far are copied.
use Rattle.std.proofs.Common.{◌≡◌, take}
use Rattle.world_core.proofs.copies.copy_of_receives.Given as goal

abbrev pub invariant-loop-receive : goal.invariant-loop-receive
invariant-loop-receive l = l.copies.items ≡ take l.receive-index l.receives
