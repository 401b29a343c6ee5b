use Rattle.std.proofs.Common.{refl}
use Rattle.bus_core.specs.Port.{made}
use Rattle.bus_core.specs.declared.operation.BusOp.TheVariants.{Load}
use Rattle.std.specs.Prelude.{Some}
use Rattle.cq_pair.specs.DeviceInside.{device_task}
use Rattle.cq_pair.proofs.DeviceTurns.{IsRunning, goes_on, ends_published, ends_full, ends_lost}
use Rattle.cq_pair.proofs.device.CqDevice.turn.Goals as goal

pub returns-then-self-clause-made : goal.returns-then-self-clause-made
returns-then-self-clause-made g c =
    let a = c.self.inside in
    let e = made (g.P.BusPort.port c.args.port.now) a.place.dbr Load (Some c.load.result) in
    (e, c.load.ensures, ends_lost a.place a.overrun (device_task a) a.ring c.args.self.now e c.self.view_is c.if-self.true c.requires.busy (record { op = refl; at_address = refl }))

pub returns-in-Done-At-clause-made : goal.returns-in-Done-At-clause-made
returns-in-Done-At-clause-made g c =
    let a = c.self.inside in
    let r : IsRunning a.place a.overrun (device_task a) a.ring c.args.self.now = record { same = c.self.invariant.ring_is; seen_as = c.self.view_is; busy = c.requires.busy; runs = c.if-self.false; work = c.self.invariant.work } in
    (c.turn.ensures.made.0, c.turn.ensures.made.1, ends_published a.place a.overrun (device_task a) a.ring c.turn.new.self c.args.self.now c.turn.ensures.made.0 c.turn.result r c.turn.ensures.made.2 c.in-Done-At.field-0 c.in-Done-At.index c.in-Done-At.is c.in-Done-At.field-0-is)

pub returns-in-Done-Full-clause-made : goal.returns-in-Done-Full-clause-made
returns-in-Done-Full-clause-made g c =
    let a = c.self.inside in
    let r : IsRunning a.place a.overrun (device_task a) a.ring c.args.self.now = record { same = c.self.invariant.ring_is; seen_as = c.self.view_is; busy = c.requires.busy; runs = c.if-self.false; work = c.self.invariant.work } in
    (c.turn.ensures.made.0, c.turn.ensures.made.1, ends_full a.place a.overrun (device_task a) a.ring c.turn.new.self c.args.self.now c.turn.ensures.made.0 c.turn.result r c.turn.ensures.made.2 c.in-Done-Full.field-0 c.in-Done-Full.index c.in-Done-Full.ci c.in-Done-Full.is c.in-Done-Full.field-0-is)

pub returns-in-More-clause-made : goal.returns-in-More-clause-made
returns-in-More-clause-made g c =
    let a = c.self.inside in
    let r : IsRunning a.place a.overrun (device_task a) a.ring c.args.self.now = record { same = c.self.invariant.ring_is; seen_as = c.self.view_is; busy = c.requires.busy; runs = c.if-self.false; work = c.self.invariant.work } in
    (c.turn.ensures.made.0, c.turn.ensures.made.1, goes_on a.place a.overrun (device_task a) a.ring c.turn.new.self c.args.self.now c.turn.ensures.made.0 c.turn.result r c.turn.ensures.made.2 c.in-More.is)

pub returns-in-More-2-clause-made : goal.returns-in-More-2-clause-made
returns-in-More-2-clause-made g c =
    let a = c.self.inside in
    let r : IsRunning a.place a.overrun (device_task a) a.ring c.args.self.now = record { same = c.self.invariant.ring_is; seen_as = c.self.view_is; busy = c.requires.busy; runs = c.if-self.false; work = c.self.invariant.work } in
    (c.turn.ensures.made.0, c.turn.ensures.made.1, goes_on a.place a.overrun (device_task a) a.ring c.turn.new.self c.args.self.now c.turn.ensures.made.0 c.turn.result r c.turn.ensures.made.2 c.in-More.is)
