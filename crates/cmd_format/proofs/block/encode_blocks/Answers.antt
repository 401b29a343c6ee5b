use Rattle.std.proofs.Common.{arith}
use Rattle.cmd_format.proofs.Blocks.{one_written, two_written}
use Rattle.cmd_format.proofs.block.encode_blocks.Goals as goal

pub returns-then-rest-le512-clause-written : goal.returns-then-rest-le512-clause-written
returns-then-rest-le512-clause-written c =
    one_written c.args.rest.now c.args.at.now c.args.token c.args.blocks.now _ (omega arith) (omega (arith, c.told-blocks)) c.encode_block.ensures

pub returns-else-rest-le512-clause-written : goal.returns-else-rest-le512-clause-written
returns-else-rest-le512-clause-written c =
    let first = rw c.split_at.ensures.front at c.encode_block-else-rest-le512.ensures in
    let second = rw c.split_at.ensures.back at c.encode_block-else-rest-le512-2.ensures in
    two_written c.args.rest.now c.args.at.now c.args.token c.args.blocks.now _ _ (omega arith) c.requires (omega (arith, c.told-blocks)) first second
