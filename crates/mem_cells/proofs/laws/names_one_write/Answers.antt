use Rattle.mem_cells.proofs.Later.{names_one_write}
use Rattle.mem_cells.proofs.laws.names_one_write.Goals as goal

pub returns : goal.returns
returns c = names_one_write
