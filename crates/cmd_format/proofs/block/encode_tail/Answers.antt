use Rattle.std.proofs.Common.{refl, replicate}
use Rattle.prm_fields.proofs.Chains.{Chain, zeros_read}
use Rattle.cmd_format.proofs.Blocks.{tail_puts, tail_from_chain}
use Rattle.cmd_format.proofs.block.encode_tail.Goals as goal

pub returns-clause-parts : goal.returns-clause-parts
returns-clause-parts c =
    let chain : Chain (tail_puts c.args.next c.args.number c.args.token) (replicate 64 0) c.put-3.new.bytes = (
      c.put.new.bytes,
      c.put.ensures.stored,
      c.put.ensures.others,
      (
        c.put-2.new.bytes,
        c.put-2.ensures.stored,
        c.put-2.ensures.others,
        (c.put-3.new.bytes, c.put-3.ensures.stored, c.put-3.ensures.others, refl),
      ),
    )
    in
    tail_from_chain c.args.next c.args.number c.args.token _ c.put-3.new.bytes chain (zeros_read 64)
