-- The rounds made so far.
use Rattle.std.proofs.Common.{◌≡◌, length}
use Rattle.scenario_text.specs.Limits.{rounds_of}
use Rattle.world_core.proofs.world.World.run_rounds.Given as goal

abbrev pub invariant-loop-round : goal.invariant-loop-round
invariant-loop-round l = l.self ≡ record l.initial.self { turns = rounds_of (length l.initial.self.parts.lines.threads) l.round }
