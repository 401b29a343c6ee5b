use Rattle.std.proofs.Common.{ap, ◌∙◌}
use Rattle.verbs_rules.specs.Start.{start}
use Rattle.verbs_model.proofs.abstract_state.beginning.start.Goals as goal

pub returns-in-Ok : goal.returns-in-Ok
returns-in-Ok c = c.in-Ok.ensures ∙ ap start c.lines.ensures.lines
