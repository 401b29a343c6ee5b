use Rattle.work_entries.proofs.OneEntry.{same_entry}
use Rattle.work_entries.proofs.laws.one_entry.Goals as goal

pub returns : goal.returns
returns c = same_entry
