use Rattle.std.proofs.Common.{◌≡◌, ◌+◌, ◌-◌, ◌^◌, ◌<◌, arith, rules}
use Rattle.prm_fields.proofs.Bytes.{shifted_is, joined_lt, joined_after, joined_here, joined_before}
use Rattle.prm_fields.proofs.bits.with_bits.Goals as goal

pub overflow_cast-result : goal.overflow_cast-result
overflow_cast-result c =
    let after = 8 - c.args.from - c.args.count in
    let whole : c.args.from + c.args.count + after ≡ 8 = omega arith in
    let small : c.args.byte < 2 ^ 8 = search rules in
    let below = joined_lt c.args.byte c.args.from c.args.count after c.args.value small whole in
    rw (shifted_is c.args.byte c.args.from c.args.count after c.args.value small whole) (search (rules, below))

pub returns : goal.returns
returns c =
    let after = 8 - c.args.from - c.args.count in
    let whole : c.args.from + c.args.count + after ≡ 8 = omega arith in
    let small : c.args.byte < 2 ^ 8 = search rules in
    rw (shifted_is c.args.byte c.args.from c.args.count after c.args.value small whole)
    record {
      replaced = joined_here c.args.byte c.args.from c.args.count after c.args.value small whole;
      before = joined_before c.args.byte c.args.from c.args.count after c.args.value small whole;
      after = joined_after c.args.byte c.args.from c.args.count after c.args.value small whole;
    }
