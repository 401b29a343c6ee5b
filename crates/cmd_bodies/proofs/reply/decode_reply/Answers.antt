use Rattle.cmd_bodies.proofs.Replies.{good_read, refused_read}
use Rattle.cmd_bodies.proofs.reply.decode_reply.Goals as goal

pub returns-then-head-eq0 : goal.returns-then-head-eq0
returns-then-head-eq0 c =
    let head = c.reply_head-head.ensures in
    good_read c.args.c.now c.args.bytes.now _ _ _ _ _ c.reply_with.result head.status c.if-head-eq0.true c.answer_to.ensures head.number head.second c.behind_head.ensures c.reply_with.ensures

pub returns-else-head-eq0 : goal.returns-else-head-eq0
returns-else-head-eq0 c = refused_read c.args.c.now c.args.bytes.now _ c.reply_head-head.ensures.status c.if-head-eq0.false
