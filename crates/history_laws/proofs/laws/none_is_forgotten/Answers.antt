use Rattle.history_laws.proofs.Keeping as keeping
use Rattle.history_laws.proofs.laws.none_is_forgotten.Goals as goal

pub returns : goal.returns
returns c = keeping.none_is_forgotten
