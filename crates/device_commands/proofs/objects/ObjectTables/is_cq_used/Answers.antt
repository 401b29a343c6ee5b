use Rattle.std.proofs.Common.{◌<◌, length, sym, ap, ◌∙◌, subst, arith, IsTrue}
use Rattle.device_commands.specs.Objects.{Objects, cq_lives, is_cq_used}
use Rattle.device_commands.proofs.Counted.{cq_used}
use Rattle.device_commands.proofs.Lives.{live_inside}
use Rattle.device_commands.proofs.objects.ObjectTables.is_cq_used.Goals as goal

pub returns : goal.returns
returns c =
    let made : c.args.cq < length c.self.inside.cqs.items = live_inside c.self.inside.cqs.items c.args.cq (subst (λ (o : Objects). IsTrue (cq_lives o c.args.cq)) (sym c.self.view_is) c.requires) in
    let counted : c.args.cq < length c.self.inside.cq_users.items = omega (arith, c.self.invariant.cqs.few, c.self.invariant.cq_count) in
    cq_used c.self.inside.pd_users.items c.self.inside.cq_users.items c.self.inside.qps.items c.args.cq c.index.result.now c.self.invariant.pairs_counted counted c.index.ensures
    ∙ ap (λ (o : Objects). is_cq_used o c.args.cq) c.self.view_is
