-- The turns of the threads so far.
use Rattle.std.proofs.Common.{◌≡◌, ◌++◌}
use Rattle.std.specs.List.{range_with_len}
use Rattle.world_core.proofs.world.World.run_round.Given as goal

abbrev pub invariant-loop-thread : goal.invariant-loop-thread
invariant-loop-thread l = l.self ≡ record l.initial.self { turns = l.initial.self.turns ++ range_with_len 1 l.thread }
