use Rattle.std.proofs.lemmas.Result.{MatchResult-weaker}
use Rattle.verbs_model.proofs.Copies.{copy_lem}
use Rattle.verbs_model.proofs.history.copy_of.Goals as goal

pub returns : goal.returns
returns c = MatchResult-weaker c.clone.result c.clone.ensures.cases (λ a h. copy_lem c.args.first.now a h) (λ e h. tt)
