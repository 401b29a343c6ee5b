use Rattle.std.proofs.Common.{refl, replicate}
use Rattle.prm_fields.proofs.Chains.{Chain, zeros_read}
use Rattle.cmd_bodies.proofs.ParameterBlocks.{qp_puts, qp_reads, qp_clear}
use Rattle.cmd_bodies.proofs.contexts.encode_qp.Goals as goal

pub returns-clause-reads : goal.returns-clause-reads
returns-clause-reads c =
    let chain : Chain (qp_puts c.args.q) (replicate 64 0) c.put-9.new.bytes = (c.put.new.bytes, c.put.ensures.stored, c.put.ensures.others, (c.put-2.new.bytes, c.put-2.ensures.stored, c.put-2.ensures.others, (c.put-3.new.bytes, c.put-3.ensures.stored, c.put-3.ensures.others, (c.put-4.new.bytes, c.put-4.ensures.stored, c.put-4.ensures.others, (c.put-5.new.bytes, c.put-5.ensures.stored, c.put-5.ensures.others, (c.put-6.new.bytes, c.put-6.ensures.stored, c.put-6.ensures.others, (c.put-7.new.bytes, c.put-7.ensures.stored, c.put-7.ensures.others, (c.put-8.new.bytes, c.put-8.ensures.stored, c.put-8.ensures.others, (c.put-9.new.bytes, c.put-9.ensures.stored, c.put-9.ensures.others, refl))))))))) in
    qp_reads c.args.q _ c.put-9.new.bytes chain (zeros_read 64)

pub returns-clause-clear : goal.returns-clause-clear
returns-clause-clear c =
    let chain : Chain (qp_puts c.args.q) (replicate 64 0) c.put-9.new.bytes = (c.put.new.bytes, c.put.ensures.stored, c.put.ensures.others, (c.put-2.new.bytes, c.put-2.ensures.stored, c.put-2.ensures.others, (c.put-3.new.bytes, c.put-3.ensures.stored, c.put-3.ensures.others, (c.put-4.new.bytes, c.put-4.ensures.stored, c.put-4.ensures.others, (c.put-5.new.bytes, c.put-5.ensures.stored, c.put-5.ensures.others, (c.put-6.new.bytes, c.put-6.ensures.stored, c.put-6.ensures.others, (c.put-7.new.bytes, c.put-7.ensures.stored, c.put-7.ensures.others, (c.put-8.new.bytes, c.put-8.ensures.stored, c.put-8.ensures.others, (c.put-9.new.bytes, c.put-9.ensures.stored, c.put-9.ensures.others, refl))))))))) in
    qp_clear c.args.q _ c.put-9.new.bytes chain (zeros_read 64)
