use Rattle.mkeys.proofs.KeyHistory.{lives_some_variant}
use Rattle.mkeys.proofs.laws.no_variant_is_zero.Goals as goal

pub returns : goal.returns
returns c = lives_some_variant
