use Rattle.srq_list.proofs.SharesSlots.{keeps_slots}
use Rattle.srq_list.proofs.laws.keeps_slots.Goals as goal

pub returns : goal.returns
returns c = keeps_slots
