use Rattle.std.proofs.Common.{◌<◌, length, arith}
use Rattle.cmd_format.proofs.Xors.{exclusive_or_signed}
use Rattle.cmd_format.proofs.entry.sign_entry.Goals as goal

pub returns-clause-signed : goal.returns-clause-signed
returns-clause-signed c =
    let inside : 61 < length c.args.bytes.now = omega (arith, c.told-bytes) in
    rw c.exclusive_or.ensures (exclusive_or_signed c.args.bytes.now 61 255 inside)
