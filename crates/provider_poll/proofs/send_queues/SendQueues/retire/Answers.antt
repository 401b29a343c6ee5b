use Rattle.std.proofs.Common.{◌≡◌, sym, ◌∙◌, subst, List, true}
use Rattle.provider_poll.specs.SendQueue.{SendView}
use Rattle.provider_poll.specs.Stores.{may_store}
use Rattle.provider_poll.specs.Turns.{CanServeEach}
use Rattle.provider_poll.proofs.EachPlace.{one_goes_on}
use Rattle.provider_poll.proofs.Places.{serves_at, found_at, goes_on, stored_within}
use Rattle.provider_poll.proofs.send_queues.SendQueues.retire.Goals as goal

pub retire-requires-clause-port : goal.retire-requires-clause-port
retire-requires-clause-port g c =
    let inside = stored_within c.self.inside.queues.items c.args.end.queue c.args.end.end (subst (λ (qs : List SendView). may_store qs c.args.end ≡ true) (sym c.self.view_is) c.requires.may) in
    serves_at c.self.inside.queues.items c.args.end.queue c.index_mut-queue.result.now inside c.index_mut-queue.ensures.value (g.P.BusPort.port c.args.port.now) (subst (λ (qs : List SendView). CanServeEach qs (g.P.BusPort.port c.args.port.now)) (sym c.self.view_is) c.requires.port)

pub invariant_of-self : goal.invariant_of-self
invariant_of-self g c =
    let queues = c.self.inside.queues.items in
    let before = c.index_mut-queue.result.now in
    let inside = stored_within queues c.args.end.queue c.args.end.end (subst (λ (qs : List SendView). may_store qs c.args.end ≡ true) (sym c.self.view_is) c.requires.may) in
    let found = found_at queues c.args.end.queue before inside c.index_mut-queue.ensures.value in
    let turn = c.retire.ensures.2 in
    record { places = one_goes_on c.self.inside.places.items queues c.args.end.queue before c.retire.new.self found turn.number c.self.invariant.places }

pub returns-clause-turn : goal.returns-clause-turn
returns-clause-turn g c =
    let before = c.index_mut-queue.result.now in
    let inside = stored_within c.self.inside.queues.items c.args.end.queue c.args.end.end (subst (λ (qs : List SendView). may_store qs c.args.end ≡ true) (sym c.self.view_is) c.requires.may) in
    let found = found_at c.self.inside.queues.items c.args.end.queue before inside c.index_mut-queue.ensures.value in
    let turn = c.retire.ensures.2 in (
      c.retire.ensures.0,
      c.retire.ensures.1,
      record {
        step = c.retire.result;
        turns = record { before = before; after = c.retire.new.self; within = goes_on c.self.inside.queues.items c.args.self.now c.args.end.queue before c.retire.new.self c.self.view_is found; queue_turn = turn };
        pair_is = c.number.ensures.number ∙ turn.number;
      },
    )
