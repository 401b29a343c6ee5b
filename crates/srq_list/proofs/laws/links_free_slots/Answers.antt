use Rattle.srq_list.proofs.FreeChain.{links_free_slots}
use Rattle.srq_list.proofs.laws.links_free_slots.Goals as goal

pub returns : goal.returns
returns c = links_free_slots
