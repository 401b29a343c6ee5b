use Rattle.cmd_slots.proofs.Kept.{keeps_questions}
use Rattle.cmd_slots.proofs.laws.keeps_questions.Goals as goal

pub returns : goal.returns
returns c = keeps_questions
