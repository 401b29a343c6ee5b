-- The places that are left.
use Rattle.std.proofs.Common.{length}
use Rattle.scenario_text.proofs.sofar.Sofar.+all_keep.Given as goal

abbrev pub decreases-all_keep : goal.decreases-all_keep
decreases-all_keep l = length l.slots.now
