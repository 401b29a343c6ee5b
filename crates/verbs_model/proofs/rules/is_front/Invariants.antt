-- The completions so far are the first of those that no poll took: what is left decides.
use Rattle.std.proofs.Common.{◌≡◌, drop}
use Rattle.verbs_rules.specs.Same as same
use Rattle.verbs_model.proofs.rules.is_front.Given as goal

abbrev pub invariant-loop-place : goal.invariant-loop-place
invariant-loop-place l = same.is_front (drop l.place l.completions) (drop l.place l.unpolled) ≡ same.is_front l.completions l.unpolled
