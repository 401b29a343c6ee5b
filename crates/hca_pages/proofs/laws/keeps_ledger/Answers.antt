use Rattle.hca_pages.proofs.Held.{keeps_ledger}
use Rattle.hca_pages.proofs.laws.keeps_ledger.Goals as goal

pub returns : goal.returns
returns c = keeps_ledger
