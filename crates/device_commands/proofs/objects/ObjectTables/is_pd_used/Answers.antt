use Rattle.std.proofs.Common.{◌-◌, ◌<◌, length, sym, ap, ◌∙◌, subst, arith, IsTrue}
use Rattle.device_commands.specs.Objects.{Objects, pd_lives, is_pd_used}
use Rattle.device_commands.proofs.Counted.{pd_used}
use Rattle.device_commands.proofs.Lives.{pd_inside}
use Rattle.device_commands.proofs.objects.ObjectTables.is_pd_used.Goals as goal

pub returns : goal.returns
returns c =
    let made = pd_inside c.self.inside.pds.items c.args.pd (subst (λ (o : Objects). IsTrue (pd_lives o c.args.pd)) (sym c.self.view_is) c.requires) in
    let counted : c.args.pd - 1 < length c.self.inside.pd_users.items = omega (arith, made.1, c.self.invariant.pds.few, c.self.invariant.pd_count) in
    pd_used c.self.inside.pd_users.items c.self.inside.cq_users.items c.self.inside.qps.items c.args.pd (c.args.pd - 1) c.index.result.now c.self.invariant.pairs_counted (omega (arith, made.0)) counted c.index.ensures
    ∙ ap (λ (o : Objects). is_pd_used o c.args.pd) c.self.view_is
