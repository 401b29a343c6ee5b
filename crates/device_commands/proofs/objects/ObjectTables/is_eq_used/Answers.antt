use Rattle.std.proofs.Common.{◌<◌, length, sym, ap, ◌∙◌, subst, arith, IsTrue}
use Rattle.device_commands.specs.Objects.{Objects, eq_lives, is_eq_used}
use Rattle.device_commands.proofs.Counted.{eq_used}
use Rattle.device_commands.proofs.Lives.{set_inside}
use Rattle.device_commands.proofs.objects.ObjectTables.is_eq_used.Goals as goal

pub returns : goal.returns
returns c =
    let made : c.args.eq < length c.self.inside.eqs.items = set_inside c.self.inside.eqs.items c.args.eq (subst (λ (o : Objects). IsTrue (eq_lives o c.args.eq)) (sym c.self.view_is) c.requires) in
    let counted : c.args.eq < length c.self.inside.eq_users.items = omega (arith, c.self.invariant.eqs.few, c.self.invariant.eq_count) in
    eq_used c.self.inside.eq_users.items c.self.inside.cqs.items c.args.eq c.index.result.now c.self.invariant.eqs_counted counted c.index.ensures
    ∙ ap (λ (o : Objects). is_eq_used o c.args.eq) c.self.view_is
