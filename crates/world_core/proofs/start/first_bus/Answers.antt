-- The words that are set are all that there are.
use Rattle.world_core.proofs.FirstBus.{first_bus_is}
use Rattle.world_core.proofs.start.first_bus.Goals as goal

pub returns-in-Ok : goal.returns-in-Ok
returns-in-Ok c = first_bus_is c.args.declared.now c.words-count.result c.args.room c.in-Ok.bus c.set_starts.new.bus c.words-count.ensures c.in-Ok.ensures c.set_starts.ensures.long c.set_starts.ensures.words
