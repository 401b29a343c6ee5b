use Rattle.mem_cells.proofs.Kept.{keeps_bytes}
use Rattle.mem_cells.proofs.laws.keeps_bytes.Goals as goal

pub returns : goal.returns
returns c = keeps_bytes
