use Rattle.std.proofs.Common.{◌≡◌, ◌-◌}
use Rattle.prm_fields.specs.Refusal.{first_refusal}
use Rattle.work_entries.specs.Rules.{unused_rules}
use Rattle.work_entries.proofs.send.check_unused.Given as goal

abbrev pub invariant-loop-k : goal.invariant-loop-k
invariant-loop-k l = first_refusal (unused_rules l.words l.units (l.end - l.units)) ≡ first_refusal (unused_rules l.words l.k (l.end - l.k))
