-- The calls passed so far post nothing.
use Rattle.std.proofs.Common.{◌≡◌, ◌-◌, length}
use Rattle.noted_history.specs.Posting.{lists_from}
use Rattle.noted_history.proofs.posting.Posting.place.Given as goal

abbrev pub invariant-loop-place : goal.invariant-loop-place
invariant-loop-place l = lists_from l.calls l.place ≡ lists_from l.calls l.self.behind

abbrev pub decreases-loop-place : goal.decreases-loop-place
decreases-loop-place l = length l.calls - l.place
