use Rattle.std.proofs.Common.{◌≡◌, length}
use Rattle.std.specs.List.{AllByRecursion}
use Rattle.work_entries.specs.Body.{HasSegments}
use Rattle.work_entries.specs.Receive.{IsReal}
use Rattle.work_entries.proofs.receive.segments_in.Given as goal

abbrev pub invariant-loop-k : goal.invariant-loop-k
invariant-loop-k l = record {
  all : length l.sges ≡ l.k;
  real : AllByRecursion IsReal l.sges;
  spelled : HasSegments l.sges l.w 0;
}
