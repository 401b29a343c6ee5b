-- The weight of those passed so far.
use Rattle.std.proofs.Common.{◌≡◌, take}
use Rattle.std.specs.List.{sum_by}
use Rattle.actor_map.specs.Weight.{capped, call_weight}
use Rattle.actor_map.proofs.weight.of_calls.Given as goal

abbrev pub invariant-loop-call : goal.invariant-loop-call
invariant-loop-call l = l.total ≡ capped (sum_by call_weight (take l.call-index l.calls))
