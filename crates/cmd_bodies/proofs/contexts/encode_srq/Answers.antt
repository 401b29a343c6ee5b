use Rattle.std.proofs.Common.{refl, replicate}
use Rattle.prm_fields.proofs.Chains.{Chain, zeros_read}
use Rattle.cmd_bodies.proofs.ParameterBlocks.{srq_puts, srq_reads, srq_clear}
use Rattle.cmd_bodies.proofs.contexts.encode_srq.Goals as goal

pub returns-clause-reads : goal.returns-clause-reads
returns-clause-reads c =
    let chain : Chain (srq_puts c.args.s) (replicate 32 0) c.put-4.new.bytes = (c.put.new.bytes, c.put.ensures.stored, c.put.ensures.others, (c.put-2.new.bytes, c.put-2.ensures.stored, c.put-2.ensures.others, (c.put-3.new.bytes, c.put-3.ensures.stored, c.put-3.ensures.others, (c.put-4.new.bytes, c.put-4.ensures.stored, c.put-4.ensures.others, refl)))) in
    srq_reads c.args.s _ c.put-4.new.bytes chain (zeros_read 32)

pub returns-clause-clear : goal.returns-clause-clear
returns-clause-clear c =
    let chain : Chain (srq_puts c.args.s) (replicate 32 0) c.put-4.new.bytes = (c.put.new.bytes, c.put.ensures.stored, c.put.ensures.others, (c.put-2.new.bytes, c.put-2.ensures.stored, c.put-2.ensures.others, (c.put-3.new.bytes, c.put-3.ensures.stored, c.put-3.ensures.others, (c.put-4.new.bytes, c.put-4.ensures.stored, c.put-4.ensures.others, refl)))) in
    srq_clear c.args.s _ c.put-4.new.bytes chain (zeros_read 32)
