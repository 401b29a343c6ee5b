use Rattle.std.proofs.Common.{sym, subst}
use Rattle.bus_core.specs.declared.turn.Step.TheVariants.{Done}
use Rattle.owner_ring.specs.declared.consumer.Taken.{Taken}
use Rattle.owner_ring.specs.ConsumerView.{ConsumerTurn}
use Rattle.eq_pair.proofs.LastWord.{IsTaking, takes_event}
use Rattle.eq_pair.proofs.host.EqHost.turn.Goals as goal

pub returns-in-Done-Entry-clause-made : goal.returns-in-Done-Entry-clause-made
returns-in-Done-Entry-clause-made g c =
    let a = c.self.inside in
    let made = c.in-Done-Entry.ensures.made in
    let taking : IsTaking a.place a.event a.ring c.args.self.now = record { same = c.self.invariant.ring_is; side_is = c.self.invariant.side_is; task_is = c.self.invariant.task_is; seen_as = c.self.view_is; busy = c.requires.busy } in
    let turn = subst (λ (end : Taken). ConsumerTurn a.ring c.turn-2.new.self made.0 (Done end)) c.in-Done-Entry.field-0-is made.2 in
    (made.0, made.1, takes_event a.place a.event a.ring c.turn-2.new.self c.begin_register.new.self c.args.self.now made.0 c.event_of.result c.in-Done-Entry.field-0-0 c.in-Done-Entry.words taking (sym c.in_default.ensures.value) c.event_of.ensures c.begin_register.ensures turn)
