use Rattle.cmd_bodies.proofs.Replies.{reads_back}
use Rattle.cmd_bodies.proofs.laws.reply_reads_back.Goals as goal

pub returns : goal.returns
returns c = reads_back
