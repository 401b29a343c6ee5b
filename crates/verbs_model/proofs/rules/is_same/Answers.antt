use Rattle.std.proofs.Common.{◌∙◌}
use Rattle.verbs_model.proofs.Derived.{same_completion_lem}
use Rattle.verbs_model.proofs.rules.is_same.Goals as goal

pub returns : goal.returns
returns c = c.eq.ensures ∙ same_completion_lem c.args.a.now c.args.b.now
