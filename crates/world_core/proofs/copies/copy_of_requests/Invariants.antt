-- Those passed so far are copied.
use Rattle.std.proofs.Common.{◌≡◌, take}
use Rattle.world_core.proofs.copies.copy_of_requests.Given as goal

abbrev pub invariant-loop-request : goal.invariant-loop-request
invariant-loop-request l = l.copies.items ≡ take l.request-index l.requests
