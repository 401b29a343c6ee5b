-- One more round.
use Rattle.world_core.proofs.Plans.{rounds_left, rounds_next}
use Rattle.world_core.proofs.world.World.run_rounds.Goals as goal

pub run_round-requires : goal.run_round-requires
run_round-requires c = rounds_left c.loop-round.self c.args.self.now.parts c.loop-round.round c.args.rounds c.loop-round.invariant c.loop-round-test.true c.requires.rounds

pub loop-round-preserved : goal.loop-round-preserved
loop-round-preserved c = rounds_next c.loop-round.self _ c.args.self.now.parts c.loop-round.round c.loop-round.invariant c.run_round.ensures
