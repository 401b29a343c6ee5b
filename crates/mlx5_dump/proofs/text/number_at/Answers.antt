use Rattle.std.proofs.Common.{refl, arith}
use Rattle.prm_fields.proofs.Values.{field_value_none}
use Rattle.mlx5_dump.proofs.Rows.{field_value-fits, field_value-more}
use Rattle.mlx5_dump.proofs.text.number_at.Goals as goal

pub loop-k-init : goal.loop-k-init
loop-k-init c = field_value_none _ _ _ refl

pub overflow_mul-number : goal.overflow_mul-number
overflow_mul-number c =
    let fits = field_value-fits c.args.bytes.now c.args.first c.loop-k.k (omega (arith, c.loop-k-test.true, c.requires)) in
    omega (arith, fits, c.loop-k.invariant)

pub overflow_add-number : goal.overflow_add-number
overflow_add-number c =
    let fits = field_value-fits c.args.bytes.now c.args.first c.loop-k.k (omega (arith, c.loop-k-test.true, c.requires)) in
    omega (arith, fits, c.loop-k.invariant, c.bit_at.ensures.value)

pub loop-k-preserved : goal.loop-k-preserved
loop-k-preserved c =
    let more = field_value-more c.args.bytes.now c.args.first c.loop-k.k in
    omega (arith, more, c.loop-k.invariant, c.bit_at.ensures.value)
