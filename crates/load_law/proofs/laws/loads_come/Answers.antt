use Rattle.load_law.proofs.Law.{loads_come}
use Rattle.load_law.proofs.laws.loads_come.Goals as goal

pub returns : goal.returns
returns c = loads_come
