use Rattle.history_laws.proofs.Balance as balance
use Rattle.history_laws.proofs.laws.none_is_lost.Goals as goal

pub returns : goal.returns
returns c = balance.none_is_lost
