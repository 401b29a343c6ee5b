use Rattle.cq_pair.proofs.Kept.{keeps_completions}
use Rattle.cq_pair.proofs.laws.keeps_completions.Goals as goal

pub returns : goal.returns
returns c = keeps_completions
