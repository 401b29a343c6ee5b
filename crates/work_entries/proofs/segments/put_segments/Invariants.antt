use Rattle.std.proofs.Common.{◌*◌, take}
use Rattle.work_entries.specs.Body.{HasSegments}
use Rattle.work_entries.specs.Unit.{KeepsOtherWords}
use Rattle.work_entries.proofs.segments.put_segments.Given as goal

abbrev pub invariant-loop-i : goal.invariant-loop-i
invariant-loop-i l = record {
  stored : HasSegments (take l.i l.sges) l.words l.first;
  others : KeepsOtherWords l.initial.words l.words (2 * l.first) (2 * l.i);
}
