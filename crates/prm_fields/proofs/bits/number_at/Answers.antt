use Rattle.std.proofs.Common.{arith}
use Rattle.prm_fields.proofs.Values.{field_value_halves}
use Rattle.prm_fields.proofs.bits.number_at.Goals as goal

pub returns-then-width-gt32 : goal.returns-then-width-gt32
returns-then-width-gt32 c =
    field_value_halves c.args.bytes.now c.args.first c.args.width _ _ (omega arith) c.requires.narrow c.half_at-high.ensures c.half_at.ensures
