-- The bytes of those passed so far.
use Rattle.std.proofs.Common.{◌≡◌, take}
use Rattle.std.specs.List.{sum_by}
use Rattle.verbs_types.specs.declared.request.Sge.{Sge}
use Rattle.actor_map.specs.Weight.{capped}
use Rattle.actor_map.proofs.weight.length_of.Given as goal

abbrev pub invariant-loop-sge : goal.invariant-loop-sge
invariant-loop-sge l = l.total ≡ capped (sum_by (λ (s : Sge). s.len) (take l.sge-index l.sges))
