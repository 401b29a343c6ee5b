-- The weight of those passed so far.
use Rattle.std.proofs.Common.{◌≡◌, take}
use Rattle.std.specs.List.{sum_by}
use Rattle.actor_map.specs.Weight.{capped, program_weight}
use Rattle.actor_map.proofs.weight.of_programs.Given as goal

abbrev pub invariant-loop-program : goal.invariant-loop-program
invariant-loop-program l = l.total ≡ capped (sum_by program_weight (take l.program-index l.programs))
