-- The turns made so far.
use Rattle.std.proofs.Common.{◌≡◌, ◌++◌, replicate}
use Rattle.world_core.proofs.world.World.turn_times.Given as goal

abbrev pub invariant-loop-made : goal.invariant-loop-made
invariant-loop-made l = l.self ≡ record l.initial.self { turns = l.initial.self.turns ++ replicate l.made l.actor }
