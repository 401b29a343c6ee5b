use Rattle.std.proofs.Common.{◌<◌, length, slice_set, arith}
use Rattle.std.proofs.Math.ListN.{length-set}
use Rattle.cmd_format.proofs.Xors.{exclusive_or_signed}
use Rattle.cmd_format.proofs.Blocks.{control_signed}
use Rattle.cmd_format.proofs.block.sign_block.Goals as goal

pub returns-clause-control_signed : goal.returns-clause-control_signed
returns-clause-control_signed c = rw c.exclusive_or.ensures (control_signed c.args.bytes.now _ c.told-bytes)

pub returns-clause-signed : goal.returns-clause-signed
returns-clause-signed c =
    let inside : 575 < length (slice_set c.args.bytes.now 574 _) = rw (length-set, c.told-bytes) (omega arith) in
    rw c.exclusive_or-2.ensures (exclusive_or_signed (slice_set c.args.bytes.now 574 _) 575 255 inside)
