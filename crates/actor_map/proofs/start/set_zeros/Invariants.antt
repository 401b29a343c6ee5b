-- So many zeros are set.
use Rattle.std.proofs.Common.{replicate}
use Rattle.actor_map.specs.Setting.{Sets}
use Rattle.actor_map.proofs.start.set_zeros.Given as goal

abbrev pub invariant-loop : goal.invariant-loop
invariant-loop l = Sets l.initial.bus l.bus l.initial.from (replicate l.counter 0) l.next
