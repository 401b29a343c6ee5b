-- The weight of those passed so far.
use Rattle.std.proofs.Common.{◌≡◌, take}
use Rattle.std.specs.List.{sum_by}
use Rattle.actor_map.specs.Weight.{capped, request_weight}
use Rattle.actor_map.proofs.weight.of_requests.Given as goal

abbrev pub invariant-loop-request : goal.invariant-loop-request
invariant-loop-request l = l.total ≡ capped (sum_by request_weight (take l.request-index l.requests))
