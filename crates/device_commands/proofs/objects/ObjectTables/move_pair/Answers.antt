use Rattle.std.proofs.Common.{sym, ap, ◌∙◌, refl}
use Rattle.device_commands.specs.Objects.{Objects, qp_at}
use Rattle.device_commands.proofs.Counted.{pair_moves}
use Rattle.device_commands.proofs.Lives.{qp_inside}
use Rattle.device_commands.proofs.objects.ObjectTables.move_pair.Goals as goal

pub invariant_of-self : goal.invariant_of-self
invariant_of-self c =
    let qps = c.self.inside.qps.items in
    let found = qp_inside qps c.args.qp c.in-Some.pair (ap (λ (o : Objects). qp_at o c.args.qp) c.self.view_is ∙ sym c.in-Some.ensures) in
    record {
      pds = c.self.invariant.pds;
      uars = c.self.invariant.uars;
      eqs = c.self.invariant.eqs;
      cqs = c.self.invariant.cqs;
      qps = c.self.invariant.qps;
      pd_count = c.self.invariant.pd_count;
      eq_count = c.self.invariant.eq_count;
      cq_count = c.self.invariant.cq_count;
      eqs_counted = c.self.invariant.eqs_counted;
      pairs_counted = pair_moves c.self.inside.pd_users.items c.self.inside.cq_users.items qps _ c.in-Some.pair _ c.self.invariant.pairs_counted found.1 found.2 refl;
    }
