use Rattle.thread_actor.specs.Inside.{sides_of}
use Rattle.thread_actor.proofs.Adding.{poll_adds, poll_stays}
use Rattle.thread_actor.proofs.sides.Sides.add_poll.Goals as goal

pub returns-in_ok-new : goal.returns-in_ok-new
returns-in_ok-new c = poll_adds c.args.d.now (sides_of c.args.self.now) c.requires.fresh c.args.cq c.index.result.now c.requires.object c.index.ensures
    c.in_ok-new.field-0 c.if-is_none.ensures c.in_ok-new.ensures.fresh c.in_ok-new.ensures.within

pub returns-else-is_none : goal.returns-else-is_none
returns-else-is_none c = poll_stays c.args.d.now (sides_of c.args.self.now) c.requires.fresh c.args.cq c.index.result.now c.requires.object c.index.ensures c.if-is_none.ensures
