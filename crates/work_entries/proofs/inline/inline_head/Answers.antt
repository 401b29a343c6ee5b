use Rattle.std.proofs.Common.{refl, replicate}
use Rattle.prm_fields.proofs.Chains.{Chain, all_hold}
use Rattle.work_entries.proofs.UnitPuts.{head_puts}
use Rattle.work_entries.proofs.inline.inline_head.Goals as goal

pub returns : goal.returns
returns c =
    let chain : Chain (head_puts c.args.bytes) (replicate 4 0) c.put-2.new.bytes = (
      c.put.new.bytes,
      c.put.ensures.stored,
      c.put.ensures.others,
      (c.put-2.new.bytes, c.put-2.ensures.stored, c.put-2.ensures.others, refl),
    )
    in
    all_hold (head_puts c.args.bytes) (replicate 4 0) c.put-2.new.bytes chain refl
