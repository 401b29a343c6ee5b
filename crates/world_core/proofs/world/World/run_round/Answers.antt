-- One more thread's turn, and then the adapter's.
use Rattle.std.proofs.Common.{arith}
use Rattle.world_core.proofs.Plans.{round_left, round_more}
use Rattle.world_core.proofs.world.World.run_round.Goals as goal

pub turn-requires-clause-left : goal.turn-requires-clause-left
turn-requires-clause-left c = round_left c.loop-thread.self c.args.self.now.parts c.args.self.now.turns c.loop-thread.thread c.loop-thread.invariant (omega (arith, c.loop-thread-test.true, c.thread_count-thread-end.ensures.threads)) c.requires

pub loop-thread-preserved : goal.loop-thread-preserved
loop-thread-preserved c = round_more c.loop-thread.self _ c.args.self.now.parts c.args.self.now.turns c.loop-thread.thread c.loop-thread.invariant c.turn.ensures

pub turn-requires-2-clause-left : goal.turn-requires-2-clause-left
turn-requires-2-clause-left c = round_left c.loop-thread.self c.args.self.now.parts c.args.self.now.turns c.loop-thread.thread c.loop-thread.invariant (omega (arith, c.loop-thread.auto.thread-end, c.thread_count-thread-end.ensures.threads)) c.requires
