use Rattle.mem_cells.proofs.Law.{run_is_legal}
use Rattle.mem_cells.proofs.laws.stands.Goals as goal

pub returns : goal.returns
returns c = run_is_legal
