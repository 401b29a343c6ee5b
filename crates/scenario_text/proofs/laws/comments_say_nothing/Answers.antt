-- Comments say nothing.
use Rattle.scenario_text.proofs.Comments.{comments_silent}
use Rattle.scenario_text.proofs.laws.comments_say_nothing.Goals as goal

pub returns : goal.returns
returns c = comments_silent
