use Rattle.std.proofs.Common.{refl}
use Rattle.device_engine.proofs.Taking.{taken_whole}
use Rattle.device_engine.proofs.pair.Pair.read.Goals as goal

pub returns-in-Some : goal.returns-in-Some
returns-in-Some g c = (
  c.turn.ensures.made.0,
  c.turn.ensures.made.1,
  taken_whole c.args.self.now c.begin_read.new.self (record c.begin_read.new.self { requests = c.turn.new.self }) c.take.new.self c.turn.new.self c.turn.ensures.made.0 c.turn.result c.in-Some.entry c.take.result c.requires.read
      c.begin_read.ensures c.turn.ensures.made.2 c.in-Some.ensures refl c.take.ensures.told c.take.ensures.pair,
)
