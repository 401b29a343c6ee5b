use Rattle.std.proofs.Common.{refl, replicate}
use Rattle.prm_fields.proofs.Chains.{Chain, zeros_read}
use Rattle.cmd_bodies.proofs.ParameterBlocks.{cq_puts, cq_reads, cq_clear}
use Rattle.cmd_bodies.proofs.contexts.encode_cq.Goals as goal

pub returns-clause-reads : goal.returns-clause-reads
returns-clause-reads c =
    let chain : Chain (cq_puts c.args.c) (replicate 64 0) c.put-5.new.bytes = (c.put.new.bytes, c.put.ensures.stored, c.put.ensures.others, (c.put-2.new.bytes, c.put-2.ensures.stored, c.put-2.ensures.others, (c.put-3.new.bytes, c.put-3.ensures.stored, c.put-3.ensures.others, (c.put-4.new.bytes, c.put-4.ensures.stored, c.put-4.ensures.others, (c.put-5.new.bytes, c.put-5.ensures.stored, c.put-5.ensures.others, refl))))) in
    cq_reads c.args.c _ c.put-5.new.bytes chain (zeros_read 64)

pub returns-clause-clear : goal.returns-clause-clear
returns-clause-clear c =
    let chain : Chain (cq_puts c.args.c) (replicate 64 0) c.put-5.new.bytes = (c.put.new.bytes, c.put.ensures.stored, c.put.ensures.others, (c.put-2.new.bytes, c.put-2.ensures.stored, c.put-2.ensures.others, (c.put-3.new.bytes, c.put-3.ensures.stored, c.put-3.ensures.others, (c.put-4.new.bytes, c.put-4.ensures.stored, c.put-4.ensures.others, (c.put-5.new.bytes, c.put-5.ensures.stored, c.put-5.ensures.others, refl))))) in
    cq_clear c.args.c _ c.put-5.new.bytes chain (zeros_read 64)
