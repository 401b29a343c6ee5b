use Rattle.history_laws.proofs.Keeping as keeping
use Rattle.history_laws.proofs.laws.all_come_back.Goals as goal

pub returns : goal.returns
returns c = keeping.all_come_back
