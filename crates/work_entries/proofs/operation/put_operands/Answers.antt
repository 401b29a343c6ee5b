use Rattle.std.proofs.Common.{refl, replicate}
use Rattle.prm_fields.proofs.Chains.{Chain}
use Rattle.work_entries.proofs.UnitPuts.{operand_puts, operand_put}
use Rattle.work_entries.proofs.operation.put_operands.Goals as goal

pub returns-clause-stored : goal.returns-clause-stored
returns-clause-stored c =
    let chain : Chain (operand_puts c.args.swap_or_add c.args.compare) (replicate 16 0) c.put-2.new.bytes = (
      c.put.new.bytes,
      c.put.ensures.stored,
      c.put.ensures.others,
      (c.put-2.new.bytes, c.put-2.ensures.stored, c.put-2.ensures.others, refl),
    )
    in
    rw c.put_unit.ensures.stored (operand_put c.args.swap_or_add c.args.compare c.put-2.new.bytes chain)
