-- Those passed so far are copied.
use Rattle.std.proofs.Common.{◌≡◌, take}
use Rattle.world_core.proofs.copies.copy_of_each.Given as goal

abbrev pub invariant-loop-calls : goal.invariant-loop-calls
invariant-loop-calls l = l.copies.items ≡ take l.calls-index l.programs
