use Rattle.std.proofs.Common.{inl, arith}
use Rattle.work_entries.proofs.Words.{unit_kept}
use Rattle.work_entries.proofs.operation.put_operation.Goals as goal

pub returns-in-Cas-clause-stored : goal.returns-in-Cas-clause-stored
returns-in-Cas-clause-stored c =
    let kept = unit_kept c.put_remote-in-Cas.new.words c.put_operands.new.words 4 2 1 c.put_operands.ensures.others (inl (omega arith)) in
    rw (c.in-Cas.is, kept) (c.put_remote-in-Cas.ensures.stored, c.put_operands.ensures.stored)

pub returns-in-Faa-clause-stored : goal.returns-in-Faa-clause-stored
returns-in-Faa-clause-stored c =
    let kept = unit_kept c.put_remote-in-Faa.new.words c.put_operands-in-Faa.new.words 4 2 1 c.put_operands-in-Faa.ensures.others (inl (omega arith)) in
    rw (c.in-Faa.is, kept) (c.put_remote-in-Faa.ensures.stored, c.put_operands-in-Faa.ensures.stored)
