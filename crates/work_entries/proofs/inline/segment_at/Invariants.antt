use Rattle.std.proofs.Common.{◌≡◌, ◌*◌, length, take}
use Rattle.work_entries.specs.Unit.{units}
use Rattle.work_entries.proofs.inline.segment_at.Given as goal

abbrev pub invariant-loop-i : goal.invariant-loop-i
invariant-loop-i l = record {
  long : length l.segment ≡ 64;
  copied : take (16 * l.i) l.segment ≡ units l.words l.first l.i;
}
