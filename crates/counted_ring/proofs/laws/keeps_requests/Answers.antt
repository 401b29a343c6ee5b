use Rattle.counted_ring.proofs.Kept.{keeps_requests}
use Rattle.counted_ring.proofs.laws.keeps_requests.Goals as goal

pub returns : goal.returns
returns c = keeps_requests
