use Rattle.std.proofs.Common.{◌≡◌, ◌-◌}
use Rattle.prm_fields.specs.Refusal.{first_refusal}
use Rattle.work_entries.specs.Found.{AreSegments}
use Rattle.work_entries.specs.Rules.{segment_rules}
use Rattle.work_entries.proofs.segments.segments_at.Given as goal

abbrev pub invariant-loop-k : goal.invariant-loop-k
invariant-loop-k l = record {
  found : AreSegments l.sges l.words l.first (l.k - l.first);
  judged : first_refusal (segment_rules l.words l.first (l.end - l.first)) ≡ first_refusal (segment_rules l.words l.k (l.end - l.k));
}
