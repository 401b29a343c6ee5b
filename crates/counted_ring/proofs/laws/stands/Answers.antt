use Rattle.counted_ring.proofs.Law.{run_is_legal}
use Rattle.counted_ring.proofs.laws.stands.Goals as goal

pub returns : goal.returns
returns c = run_is_legal
