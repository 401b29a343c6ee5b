-- What is left to come stands to the numbers reached as all does to the first numbers.
use Rattle.std.proofs.Common.{◌≡◌, ◌≤◌, ◌+◌, drop}
use Rattle.verbs_types.specs.Lines as tests
use Rattle.verbs_types.specs.declared.declaration.TheConstants.{FIRST_PD, FIRST_QP}
use Rattle.verbs_types.proofs.declaration.are_in_turn.Given as goal

abbrev pub invariant-loop-object : goal.invariant-loop-object
invariant-loop-object l = record {
  same : tests.are_in_turn l.lines l.eq l.pd l.cq l.qp (drop l.object-index l.lines.order) ≡ tests.are_in_turn l.lines 0 FIRST_PD 0 FIRST_QP l.lines.order;
  eq : l.eq ≤ l.object-index;
  pd : l.pd ≤ FIRST_PD + l.object-index;
  cq : l.cq ≤ l.object-index;
  qp : l.qp ≤ FIRST_QP + l.object-index;
}
