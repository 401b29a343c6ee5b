use Rattle.std.proofs.Common.{refl, replicate}
use Rattle.prm_fields.proofs.Chains.{Chain}
use Rattle.work_entries.proofs.UnitPuts.{segment_puts, segment_put}
use Rattle.work_entries.proofs.segments.segment_unit.Goals as goal

pub returns : goal.returns
returns c =
    let chain : Chain (segment_puts c.args.sge) (replicate 16 0) c.put-3.new.bytes = (
      c.put.new.bytes,
      c.put.ensures.stored,
      c.put.ensures.others,
      (
        c.put-2.new.bytes,
        c.put-2.ensures.stored,
        c.put-2.ensures.others,
        (c.put-3.new.bytes, c.put-3.ensures.stored, c.put-3.ensures.others, refl),
      ),
    )
    in
    segment_put c.args.sge c.put-3.new.bytes chain
