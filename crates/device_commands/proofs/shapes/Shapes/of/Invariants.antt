-- The shapes of the lines so far.
use Rattle.std.proofs.Common.{◌≡◌, map, take}
use Rattle.std.specs.List.{filter}
use Rattle.device_commands.specs.Shapes.{has_page, eq_shape, cq_shape, qp_shape}
use Rattle.device_commands.proofs.shapes.Shapes.of.Given as goal

abbrev pub invariant-loop-line : goal.invariant-loop-line
invariant-loop-line l = l.eqs.items ≡ map eq_shape (take l.line-index l.lines.eqs)

abbrev pub invariant-loop-line-2 : goal.invariant-loop-line-2
invariant-loop-line-2 l = l.cqs.items ≡ map cq_shape (take l.line-index l.lines.cqs)

abbrev pub invariant-loop-line-3 : goal.invariant-loop-line-3
invariant-loop-line-3 l = l.qps.items ≡ map qp_shape (take l.line-index l.lines.qps)

abbrev pub invariant-loop-object : goal.invariant-loop-object
invariant-loop-object l = l.owners.items ≡ filter has_page (take l.object-index l.lines.order)
