use Rattle.history_laws.proofs.Keeping as keeping
use Rattle.history_laws.proofs.laws.ids_come_back.Goals as goal

pub returns : goal.returns
returns c = keeping.ids_come_back
