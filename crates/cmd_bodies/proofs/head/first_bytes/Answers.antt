use Rattle.prm_fields.proofs.Chains.{zeros_read}
use Rattle.cmd_bodies.proofs.PaddedHead.{padded_head}
use Rattle.cmd_bodies.proofs.head.first_bytes.Goals as goal

pub returns : goal.returns
returns c =
    rw c.copy_from_slice.ensures.after (padded_head c.args.bytes.now _ c.min-held.result c.min-held.ensures (zeros_read 16))
