use Rattle.prm_fields.proofs.Spelling.{one_spelling}
use Rattle.prm_fields.proofs.laws.one_spelling.Goals as goal

pub returns : goal.returns
returns c = one_spelling
