use Rattle.actor_map.proofs.Numbers.{told_back}
use Rattle.actor_map.proofs.laws.notes_tell_numbers.Goals as goal

pub returns : goal.returns
returns c = told_back
