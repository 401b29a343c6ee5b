use Rattle.thread_actor.specs.Inside.{sides_of}
use Rattle.thread_actor.proofs.Adding.{receive_adds, receive_stays}
use Rattle.thread_actor.proofs.sides.Sides.add_receive.Goals as goal

pub returns-then-is_none : goal.returns-then-is_none
returns-then-is_none c = receive_adds c.args.d.now (sides_of c.args.self.now) c.requires.fresh c.args.qp c.place_of-place.result c.index.result.now c.requires.object c.place_of-place.ensures
    c.new.result c.index.ensures c.if-is_none.ensures c.new.ensures.fresh c.new.ensures.within

pub returns-else-is_none : goal.returns-else-is_none
returns-else-is_none c = receive_stays c.args.d.now (sides_of c.args.self.now) c.requires.fresh c.args.qp c.place_of-place.result c.index.result.now c.requires.object c.place_of-place.ensures
    c.index.ensures c.if-is_none.ensures
