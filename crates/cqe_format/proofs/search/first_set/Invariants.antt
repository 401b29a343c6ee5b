use Rattle.cqe_format.specs.Search.{IsClear}
use Rattle.cqe_format.proofs.search.first_set.Given as goal

abbrev pub invariant-loop-i : goal.invariant-loop-i
invariant-loop-i l = IsClear l.bytes l.first l.i
