use Rattle.std.proofs.Common.{refl, replicate}
use Rattle.prm_fields.proofs.Chains.{Chain}
use Rattle.work_entries.proofs.UnitPuts.{remote_puts, remote_put}
use Rattle.work_entries.proofs.operation.put_remote.Goals as goal

pub returns-clause-stored : goal.returns-clause-stored
returns-clause-stored c =
    let chain : Chain (remote_puts c.args.addr c.args.key) (replicate 16 0) c.put-2.new.bytes = (
      c.put.new.bytes,
      c.put.ensures.stored,
      c.put.ensures.others,
      (c.put-2.new.bytes, c.put-2.ensures.stored, c.put-2.ensures.others, refl),
    )
    in
    rw c.put_unit.ensures.stored (remote_put c.args.addr c.args.key c.put-2.new.bytes chain)
