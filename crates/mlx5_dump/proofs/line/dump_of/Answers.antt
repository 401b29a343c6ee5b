use Rattle.std.proofs.Common.{sym, ap, ◌∙◌}
use Rattle.mlx5_dump.specs.Kind.{has_length}
use Rattle.mlx5_dump.specs.Line.{dump_text}
use Rattle.mlx5_dump.proofs.Dumps.{wrong_length}
use Rattle.mlx5_dump.proofs.line.dump_of.Goals as goal

pub returns-then-not-has_length-clause-none : goal.returns-then-not-has_length-clause-none
returns-then-not-has_length-clause-none c =
    wrong_length c.in_ok-kind.kind c.in_ok-kind.digits.now c.in_ok-bytes.bytes.items c.args.line.now c.in_ok-kind.ensures.found c.in_ok-bytes.ensures.found
    (ap (has_length c.in_ok-kind.kind) (sym c.len.ensures.value) ∙ sym c.if-not-has_length.ensures)

pub returns-clause-found : goal.returns-clause-found
returns-clause-found c = record {
  spelled = c.in_ok-kind.ensures.found ∙ ap (dump_text c.in_ok-kind.kind) c.in_ok-bytes.ensures.found;
  small = c.in_ok-bytes.ensures.small;
  long = sym (c.if-not-has_length.ensures ∙ ap (has_length c.in_ok-kind.kind) c.len.ensures.value);
}
