use Rattle.std.proofs.Common.{◌≡◌}
use Rattle.prm_fields.specs.Bits.{field_value}
use Rattle.mlx5_dump.proofs.text.number_at.Given as goal

abbrev pub invariant-loop-k : goal.invariant-loop-k
invariant-loop-k l = l.number ≡ field_value l.bytes l.first l.k
