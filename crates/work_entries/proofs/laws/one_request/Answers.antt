use Rattle.work_entries.proofs.OneValue.{one_value}
use Rattle.work_entries.proofs.laws.one_request.Goals as goal

pub returns : goal.returns
returns c = one_value
