use Rattle.std.proofs.Common.{subst}
use Rattle.cq_pair.specs.HostView.{HostView, HostTurn}
use Rattle.cq_pair.specs.HostInside.{host_with}
use Rattle.cq_pair.proofs.HostTurns.{turned}
use Rattle.cq_pair.proofs.host.CqHost.turn.Goals as goal

pub returns-clause-made : goal.returns-clause-made
returns-clause-made g c =
    let turn = turned c.self.inside.place c.self.inside.ring c.turn.new.self c.turn.ensures.made.0 c.turn.result c.answered.result c.self.invariant.ring_is c.answered.ensures c.turn.ensures.made.2 in
    (c.turn.ensures.made.0, c.turn.ensures.made.1, subst (λ (h : HostView). HostTurn h (host_with c.self.inside.place c.turn.new.self) c.turn.ensures.made.0 c.answered.result) c.self.view_is turn)
