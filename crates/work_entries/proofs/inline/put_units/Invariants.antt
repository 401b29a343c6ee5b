use Rattle.std.proofs.Common.{◌≡◌, ◌*◌, take}
use Rattle.work_entries.specs.Unit.{KeepsOtherWords, units}
use Rattle.work_entries.proofs.inline.put_units.Given as goal

abbrev pub invariant-loop-i : goal.invariant-loop-i
invariant-loop-i l = record {
  stored : units l.words l.first l.i ≡ take (16 * l.i) l.segment;
  others : KeepsOtherWords l.initial.words l.words (2 * l.first) (2 * l.i);
}
