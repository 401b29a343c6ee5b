use Rattle.std.proofs.Common.{rules, ◌<◌, length, sym, subst, arith}
use Rattle.device_commands.specs.Users.{EqsCounted}
use Rattle.device_commands.proofs.Comes.{cq_fits}
use Rattle.device_commands.proofs.Counted.{eq_few, cq_comes}
use Rattle.device_commands.proofs.objects.ObjectTables.create_cq.Goals as goal

pub count_one_more-requires-clause-inside : goal.count_one_more-requires-clause-inside
count_one_more-requires-clause-inside c =
    let fits = cq_fits _ c.args.self.now c.args.asked.now c.in-Some.shape c.self.view_is (search rules) c.in-Some.ensures in
    omega (arith, fits.made, c.self.invariant.eqs.few, c.self.invariant.eq_count)

pub count_one_more-requires-clause-few : goal.count_one_more-requires-clause-few
count_one_more-requires-clause-few c =
    eq_few c.self.inside.eq_users.items c.self.inside.cqs.items c.in-Some.shape.eq c.self.invariant.eqs_counted (omega (arith, count_one_more-requires-clause-inside c)) (omega (arith, c.self.invariant.cqs.few, c.self.invariant.cqs.bounded))

pub push_reserved-requires : goal.push_reserved-requires
push_reserved-requires c =
    let fits = cq_fits _ c.args.self.now c.args.asked.now c.in-Some.shape c.self.view_is (search rules) c.in-Some.ensures in
    omega (arith, fits.room, c.self.invariant.cqs.room)

pub invariant_of-self : goal.invariant_of-self
invariant_of-self c =
    let fits = cq_fits _ c.args.self.now c.args.asked.now c.in-Some.shape c.self.view_is (search rules) c.in-Some.ensures in
    let counted : c.in-Some.shape.eq < length c.self.inside.eq_users.items = omega (arith, fits.made, c.self.invariant.eqs.few, c.self.invariant.eq_count) in
    let comes = cq_comes c.self.inside.eq_users.items c.count_one_more.new.users.items c.self.inside.cqs.items c.in-Some.shape c.self.invariant.eqs_counted counted (omega (arith, c.count_one_more.ensures.len)) c.count_one_more.ensures.counted in
    record {
      pds = c.self.invariant.pds;
      uars = c.self.invariant.uars;
      eqs = c.self.invariant.eqs;
      cqs = record { few = omega (arith, fits.room, c.push_reserved.ensures.len); room = omega (arith, c.self.invariant.cqs.room, c.push_reserved.ensures.capacity); bounded = c.self.invariant.cqs.bounded };
      qps = c.self.invariant.qps;
      pd_count = c.self.invariant.pd_count;
      eq_count = omega (arith, c.self.invariant.eq_count, c.count_one_more.ensures.len);
      cq_count = c.self.invariant.cq_count;
      eqs_counted = subst (EqsCounted c.count_one_more.new.users.items) (sym c.push_reserved.ensures.items) comes;
      pairs_counted = c.self.invariant.pairs_counted;
    }
