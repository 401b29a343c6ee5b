use Rattle.cmd_bodies.proofs.Replies.{addresses_written}
use Rattle.cmd_bodies.proofs.reply.encode_reply.Goals as goal

pub returns-else-r-eq0-clause-spelled : goal.returns-else-r-eq0-clause-spelled
returns-else-r-eq0-clause-spelled c =
    addresses_written c.args.r.now _ _ c.put_pages.new.to c.if-r-eq0.false c.put_reply_head-else-r-eq0.ensures.head c.put_pages.ensures.others c.put_pages.ensures.written
