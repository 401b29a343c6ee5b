use Rattle.device_commands.proofs.Life.{keeps_life}
use Rattle.device_commands.proofs.laws.keeps_life.Goals as goal

pub returns : goal.returns
returns c = keeps_life
