use Rattle.eq_pair.proofs.Law.{fresh_starts}
use Rattle.eq_pair.proofs.laws.starts_fresh.Goals as goal

pub returns : goal.returns
returns c = fresh_starts
