-- Those passed so far are copied.
use Rattle.std.proofs.Common.{◌≡◌, take}
use Rattle.world_core.proofs.copies.copy_of_calls.Given as goal

abbrev pub invariant-loop-call : goal.invariant-loop-call
invariant-loop-call l = l.copies.items ≡ take l.call-index l.calls
