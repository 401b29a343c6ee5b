use Rattle.std.proofs.Common.{◌≡◌, ◌+◌, ◌-◌, ◌*◌, ◌≤◌, min, arith, ap, ◌∙◌}
use Rattle.prm_fields.specs.Bits.{field_value}
use Rattle.prm_fields.proofs.Values.{field_value_joined, field_value_none}
use Rattle.prm_fields.proofs.bits.half_at.Goals as goal

pub loop-i-init : goal.loop-i-init
loop-i-init c = field_value_none _ _ _ (omega arith)

pub loop-i-preserved : goal.loop-i-preserved
loop-i-preserved c =
    let known = min (c.args.first + c.args.width) (8 * c.loop-i.i) - c.args.first in
    let count = c.min-to.result - c.max-from.result in
    let from = c.max-from.result - 8 * c.loop-i.i in
    let place : c.args.first + known ≡ 8 * c.loop-i.i + from = omega (arith, c.max-from.ensures, c.min-to.ensures) in
    let within : from + count ≤ 8 = omega (arith, c.max-from.ensures, c.min-to.ensures) in
    let wide : known + count ≤ 64 = omega (arith, c.max-from.ensures, c.min-to.ensures) in
    let reached : known + count ≡ min (c.args.first + c.args.width) (8 * (c.loop-i.i + 1)) - c.args.first = omega (arith, c.max-from.ensures, c.min-to.ensures) in
    rw c.bits_of.ensures
    (field_value_joined c.args.bytes.now c.args.first known c.loop-i.i from count c.loop-i.value c.loop-i.invariant place within wide
    ∙ ap (field_value c.args.bytes.now c.args.first) reached)
