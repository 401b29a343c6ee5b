use Rattle.std.proofs.Common.{refl}
use Rattle.cmd_format.proofs.Blocks.{joined}
use Rattle.cmd_format.proofs.block.join.Goals as goal

pub returns : goal.returns
returns c = joined c.args.part.now c.args.tail.now c.requires c.told-tail _ c.copy_at.new.bytes c.copy_at-2.new.bytes refl c.copy_at.ensures c.copy_at-2.ensures
