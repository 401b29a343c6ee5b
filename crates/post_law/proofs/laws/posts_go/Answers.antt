use Rattle.post_law.proofs.Law.{posts_go}
use Rattle.post_law.proofs.laws.posts_go.Goals as goal

pub returns : goal.returns
returns c = posts_go
