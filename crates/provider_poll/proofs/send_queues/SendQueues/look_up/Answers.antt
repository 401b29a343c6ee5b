use Rattle.std.proofs.Common.{◌<◌, sym, subst, List, length}
use Rattle.provider_poll.specs.SendQueue.{SendView}
use Rattle.provider_poll.specs.Turns.{CanServeEach}
use Rattle.provider_poll.proofs.EachPlace.{one_goes_on}
use Rattle.provider_poll.proofs.Places.{serves_at, found_at, goes_on}
use Rattle.provider_poll.proofs.send_queues.SendQueues.look_up.Goals as goal

pub look_up-requires : goal.look_up-requires
look_up-requires g c = record { port = serves_at c.self.inside.queues.items c.args.queue c.index_mut.result.now (subst (λ (qs : List SendView). c.args.queue < length qs) (sym c.self.view_is) c.requires.inside) c.index_mut.ensures.value (g.P.BusPort.port c.args.port.now) (subst (λ (qs : List SendView). CanServeEach qs (g.P.BusPort.port c.args.port.now)) (sym c.self.view_is) c.requires.port) }

pub invariant_of-self : goal.invariant_of-self
invariant_of-self g c =
    let queues = c.self.inside.queues.items in
    let before = c.index_mut.result.now in
    let found = found_at queues c.args.queue before (subst (λ (qs : List SendView). c.args.queue < length qs) (sym c.self.view_is) c.requires.inside) c.index_mut.ensures.value in
    let turn = c.look_up.ensures.2 in
    record { places = one_goes_on c.self.inside.places.items queues c.args.queue before c.look_up.new.self found turn.number c.self.invariant.places }

pub returns : goal.returns
returns g c =
    let before = c.index_mut.result.now in
    let found = found_at c.self.inside.queues.items c.args.queue before (subst (λ (qs : List SendView). c.args.queue < length qs) (sym c.self.view_is) c.requires.inside) c.index_mut.ensures.value in (
      c.look_up.ensures.0,
      c.look_up.ensures.1,
      record { before = before; after = c.look_up.new.self; within = goes_on c.self.inside.queues.items c.args.self.now c.args.queue before c.look_up.new.self c.self.view_is found; queue_turn = c.look_up.ensures.2 },
    )
