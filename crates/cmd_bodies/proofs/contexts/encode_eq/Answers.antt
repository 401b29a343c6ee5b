use Rattle.std.proofs.Common.{refl, replicate}
use Rattle.prm_fields.proofs.Chains.{Chain, zeros_read}
use Rattle.cmd_bodies.proofs.ParameterBlocks.{eq_puts, eq_reads, eq_clear}
use Rattle.cmd_bodies.proofs.contexts.encode_eq.Goals as goal

pub returns-clause-reads : goal.returns-clause-reads
returns-clause-reads c =
    let chain : Chain (eq_puts c.args.e) (replicate 32 0) c.put-3.new.bytes = (c.put.new.bytes, c.put.ensures.stored, c.put.ensures.others, (c.put-2.new.bytes, c.put-2.ensures.stored, c.put-2.ensures.others, (c.put-3.new.bytes, c.put-3.ensures.stored, c.put-3.ensures.others, refl))) in
    eq_reads c.args.e _ c.put-3.new.bytes chain (zeros_read 32)

pub returns-clause-clear : goal.returns-clause-clear
returns-clause-clear c =
    let chain : Chain (eq_puts c.args.e) (replicate 32 0) c.put-3.new.bytes = (c.put.new.bytes, c.put.ensures.stored, c.put.ensures.others, (c.put-2.new.bytes, c.put-2.ensures.stored, c.put-2.ensures.others, (c.put-3.new.bytes, c.put-3.ensures.stored, c.put-3.ensures.others, refl))) in
    eq_clear c.args.e _ c.put-3.new.bytes chain (zeros_read 32)
