use Rattle.std.proofs.Common.{◌≡◌, ◌+◌, ◌-◌, ◌*◌, ◌/◌, ◌%◌, ◌^◌, ◌<◌, ◌≤◌, min, arith, ap, ◌∙◌, length}
use Rattle.prm_fields.proofs.Puts.{keeps_more, value_more, keeps_none, value_none}
use Rattle.prm_fields.proofs.bits.put_number_at.Goals as goal

pub loop-i-init : goal.loop-i-init
loop-i-init c =
    let none : min (c.args.first + c.args.width) (8 * (c.args.first / 8)) - c.args.first ≡ 0 = omega arith in
    record {
      kept = keeps_none _ _ _;
      value = value_none _ _ _ _ _ none c.requires.fits;
    }

pub loop-i-preserved : goal.loop-i-preserved
loop-i-preserved c =
    let written = min (c.args.first + c.args.width) (8 * c.loop-i.i) - c.args.first in
    let count = c.min-to.result - c.max-from.result in
    let from = c.max-from.result - 8 * c.loop-i.i in
    let place : c.args.first + written ≡ 8 * c.loop-i.i + from = omega (arith, c.max-from.ensures, c.min-to.ensures) in
    let within : from + count ≤ 8 = omega (arith, c.max-from.ensures, c.min-to.ensures) in
    let room : written + count ≤ c.args.width = omega (arith, c.max-from.ensures, c.min-to.ensures) in
    let reached : min (c.args.first + c.args.width) (8 * (c.loop-i.i + 1)) - c.args.first ≡ written + count = omega (arith, c.max-from.ensures, c.min-to.ensures) in
    let left : c.args.first + c.args.width - c.min-to.result ≡ c.args.width - (written + count) = omega (arith, c.max-from.ensures, c.min-to.ensures) in
    let inside : c.loop-i.i < length c.loop-i.bytes = omega arith in
    let next = c.with_bits.ensures.replaced ∙ ap (λ n. c.args.value / 2 ^ n % 2 ^ count) left in
    rw reached
    record {
      kept = keeps_more _ _ c.args.first written c.loop-i.i c.with_bits.result from count c.args.width c.args.value place within inside room c.with_bits.ensures.before c.with_bits.ensures.after c.loop-i.invariant.kept;
      value = value_more c.args.bytes.now _ c.args.first written c.loop-i.i c.with_bits.result from count c.args.width c.args.value place within inside room c.with_bits.ensures.before c.with_bits.ensures.after c.loop-i.invariant.value next;
    }
