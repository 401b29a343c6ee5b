use Rattle.srq_list.proofs.KeptReceives.{keeps_receives}
use Rattle.srq_list.proofs.laws.keeps_receives.Goals as goal

pub returns : goal.returns
returns c = keeps_receives
