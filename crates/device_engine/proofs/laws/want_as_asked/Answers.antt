use Rattle.device_engine.proofs.Entries.{wants_is}
use Rattle.device_engine.proofs.laws.want_as_asked.Goals as goal

pub returns : goal.returns
returns c = wants_is
