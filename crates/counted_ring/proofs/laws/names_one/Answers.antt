use Rattle.counted_ring.proofs.Orders.{one_request}
use Rattle.counted_ring.proofs.laws.names_one.Goals as goal

pub returns : goal.returns
returns c = λ place index ok events counter n k legal h g. one_request place index events counter n k ok legal h g
