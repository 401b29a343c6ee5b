use Rattle.work_entries.proofs.Receiving.{one_list}
use Rattle.work_entries.proofs.laws.one_list.Goals as goal

pub returns : goal.returns
returns c = one_list
