use Rattle.std.proofs.Common.{rules, ◌<◌, None, length, sym, subst, arith}
use Rattle.verbs_types.specs.declared.state.QpState.TheVariants.{Reset}
use Rattle.device_commands.specs.Users.{PairsCounted, PairUses}
use Rattle.device_commands.proofs.Comes.{pair_fits}
use Rattle.device_commands.proofs.Counted.{pd_few, cq_few, one_more_few, pair_comes}
use Rattle.device_commands.proofs.objects.ObjectTables.create_qp.Goals as goal

pub count_one_more-requires-clause-inside : goal.count_one_more-requires-clause-inside
count_one_more-requires-clause-inside c =
    let fits = pair_fits _ c.args.self.now c.args.asked.now c.in-Some.shape c.self.view_is (search rules) c.in-Some.ensures in
    omega (arith, fits.pd, c.self.invariant.pds.few, c.self.invariant.pd_count)

pub count_one_more-requires-clause-few : goal.count_one_more-requires-clause-few
count_one_more-requires-clause-few c =
    pd_few c.self.inside.pd_users.items c.self.inside.cq_users.items c.self.inside.qps.items _ c.self.invariant.pairs_counted (omega (arith, count_one_more-requires-clause-inside c)) (omega (arith, c.self.invariant.qps.few, c.self.invariant.qps.bounded))

pub count_one_more-requires-2-clause-inside : goal.count_one_more-requires-2-clause-inside
count_one_more-requires-2-clause-inside c =
    let fits = pair_fits _ c.args.self.now c.args.asked.now c.in-Some.shape c.self.view_is (search rules) c.in-Some.ensures in
    omega (arith, fits.send, c.self.invariant.cqs.few, c.self.invariant.cq_count)

pub count_one_more-requires-2-clause-few : goal.count_one_more-requires-2-clause-few
count_one_more-requires-2-clause-few c =
    let few = cq_few c.self.inside.pd_users.items c.self.inside.cq_users.items c.self.inside.qps.items c.in-Some.shape.send_cq c.self.invariant.pairs_counted (omega (arith, count_one_more-requires-2-clause-inside c)) (omega (arith, c.self.invariant.qps.few, c.self.invariant.qps.bounded)) in
    omega (arith, few)

pub count_one_more-requires-3-clause-inside : goal.count_one_more-requires-3-clause-inside
count_one_more-requires-3-clause-inside c =
    let fits = pair_fits _ c.args.self.now c.args.asked.now c.in-Some.shape c.self.view_is (search rules) c.in-Some.ensures in
    omega (arith, fits.recv, c.self.invariant.cqs.few, c.self.invariant.cq_count, c.count_one_more-2.ensures.len)

pub count_one_more-requires-3-clause-few : goal.count_one_more-requires-3-clause-few
count_one_more-requires-3-clause-few c =
    let inside : c.in-Some.shape.recv_cq < length c.self.inside.cq_users.items = omega (arith, count_one_more-requires-3-clause-inside c, c.count_one_more-2.ensures.len) in
    let few = cq_few c.self.inside.pd_users.items c.self.inside.cq_users.items c.self.inside.qps.items c.in-Some.shape.recv_cq c.self.invariant.pairs_counted inside (omega (arith, c.self.invariant.qps.few, c.self.invariant.qps.bounded)) in
    one_more_few c.self.inside.cq_users.items c.count_one_more-2.new.users.items c.in-Some.shape.send_cq c.in-Some.shape.recv_cq c.count_one_more-2.ensures.counted inside few

pub push_reserved-requires : goal.push_reserved-requires
push_reserved-requires c =
    let fits = pair_fits _ c.args.self.now c.args.asked.now c.in-Some.shape c.self.view_is (search rules) c.in-Some.ensures in
    omega (arith, fits.room, c.self.invariant.qps.room)

pub invariant_of-self : goal.invariant_of-self
invariant_of-self c =
    let fits = pair_fits _ c.args.self.now c.args.asked.now c.in-Some.shape c.self.view_is (search rules) c.in-Some.ensures in
    let uses : PairUses (length c.self.inside.pd_users.items) (length c.self.inside.cq_users.items) (record { shape = c.in-Some.shape; state = Reset; peer = None }) = record {
      first = fits.first;
      pd = omega (arith, fits.first, fits.pd, c.self.invariant.pds.few, c.self.invariant.pd_count);
      send = omega (arith, fits.send, c.self.invariant.cqs.few, c.self.invariant.cq_count);
      recv = omega (arith, fits.recv, c.self.invariant.cqs.few, c.self.invariant.cq_count);
    } in
    let comes = pair_comes c.self.inside.pd_users.items c.count_one_more.new.users.items c.self.inside.cq_users.items c.count_one_more-2.new.users.items c.count_one_more-3.new.users.items c.self.inside.qps.items _
    c.self.invariant.pairs_counted uses (omega (arith, c.count_one_more.ensures.len)) (omega (arith, c.count_one_more-2.ensures.len)) (omega (arith, c.count_one_more-3.ensures.len))
    c.count_one_more.ensures.counted c.count_one_more-2.ensures.counted c.count_one_more-3.ensures.counted in
    record {
      pds = c.self.invariant.pds;
      uars = c.self.invariant.uars;
      eqs = c.self.invariant.eqs;
      cqs = c.self.invariant.cqs;
      qps = record { few = omega (arith, fits.room, c.push_reserved.ensures.len); room = omega (arith, c.self.invariant.qps.room, c.push_reserved.ensures.capacity); bounded = c.self.invariant.qps.bounded };
      pd_count = omega (arith, c.self.invariant.pd_count, c.count_one_more.ensures.len);
      eq_count = c.self.invariant.eq_count;
      cq_count = omega (arith, c.self.invariant.cq_count, c.count_one_more-2.ensures.len, c.count_one_more-3.ensures.len);
      eqs_counted = c.self.invariant.eqs_counted;
      pairs_counted = subst (PairsCounted c.count_one_more.new.users.items c.count_one_more-3.new.users.items) (sym c.push_reserved.ensures.items) comes;
    }
