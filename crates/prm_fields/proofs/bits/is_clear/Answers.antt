use Rattle.std.proofs.Common.{◌≡◌, ◌+◌, ◌-◌, ◌*◌, ◌/◌, ◌≤◌, min, arith, sym, ap, ◌∙◌, refl}
use Rattle.prm_fields.specs.Bits.{field_value}
use Rattle.prm_fields.proofs.Values.{field_value_none}
use Rattle.prm_fields.proofs.Clear.{clear_more, found_more, same_tests}
use Rattle.prm_fields.proofs.bits.is_clear.Goals as goal

pub loop-i-init : goal.loop-i-init
loop-i-init c =
    let none : min (c.args.first + c.args.width) (8 * (c.args.first / 8)) - c.args.first ≡ 0 = omega arith in
    record {
      clear = λ _. sym (field_value_none _ _ _ none);
      found = λ _. refl;
    }

pub loop-i-preserved : goal.loop-i-preserved
loop-i-preserved c =
    let read = min (c.args.first + c.args.width) (8 * c.loop-i.i) - c.args.first in
    let count = c.min-to.result - c.max-from.result in
    let from = c.max-from.result - 8 * c.loop-i.i in
    let place : c.args.first + read ≡ 8 * c.loop-i.i + from = omega (arith, c.max-from.ensures, c.min-to.ensures) in
    let within : from + count ≤ 8 = omega (arith, c.max-from.ensures, c.min-to.ensures) in
    let reached : min (c.args.first + c.args.width) (8 * (c.loop-i.i + 1)) - c.args.first ≡ read + count = omega (arith, c.max-from.ensures, c.min-to.ensures) in
    rw (reached, c.bits_of-found.ensures)
    record {
      clear = clear_more c.args.bytes.now c.args.first read c.loop-i.i from count c.loop-i.found place within c.loop-i.invariant.clear;
      found = found_more c.args.bytes.now c.args.first read c.loop-i.i from count c.loop-i.found place within c.loop-i.invariant.found;
    }

pub returns : goal.returns
returns c =
    let whole : min (c.args.first + c.args.width) (8 * c.loop-i.i) - c.args.first ≡ c.args.width = omega arith in
    same_tests c.loop-i.found (field_value c.args.bytes.now c.args.first c.args.width)
    (λ none. ap (field_value c.args.bytes.now c.args.first) (sym whole) ∙ c.loop-i.invariant.clear none)
    (λ none. c.loop-i.invariant.found (ap (field_value c.args.bytes.now c.args.first) whole ∙ none))
