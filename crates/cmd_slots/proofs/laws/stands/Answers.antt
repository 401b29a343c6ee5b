use Rattle.cmd_slots.proofs.Law.{run_is_legal}
use Rattle.cmd_slots.proofs.laws.stands.Goals as goal

pub returns : goal.returns
returns c = run_is_legal
