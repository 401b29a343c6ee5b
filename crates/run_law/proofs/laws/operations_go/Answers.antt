use Rattle.run_law.proofs.Law.{all_go}
use Rattle.run_law.proofs.laws.operations_go.Goals as goal

pub returns : goal.returns
returns c d programs bounds map_ok = all_go d programs bounds map_ok (c.adapter_goes.ensures d programs bounds map_ok) (c.posts_go.ensures d programs bounds map_ok) (c.polls_go.ensures d programs bounds map_ok)
