use Rattle.poll_law.proofs.Goes.{polls_go}
use Rattle.poll_law.proofs.laws.polls_go.Goals as goal

pub returns : goal.returns
returns c = polls_go c.loads_come.ensures
