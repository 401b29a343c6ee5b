use Rattle.std.proofs.Common.{sym, ap, ◌∙◌, arith}
use Rattle.device_commands.specs.Objects.{Objects, qp_at}
use Rattle.device_commands.proofs.Counted.{pair_inside, pd_has_user, send_has_user, recv_has_user, pair_goes}
use Rattle.device_commands.proofs.Lives.{qp_inside}
use Rattle.device_commands.proofs.objects.ObjectTables.destroy_qp.Goals as goal

pub count_one_less-requires-clause-some : goal.count_one_less-requires-clause-some
count_one_less-requires-clause-some c =
    let found = qp_inside c.self.inside.qps.items c.args.qp c.in-Some.pair (ap (λ (o : Objects). qp_at o c.args.qp) c.self.view_is ∙ sym c.in-Some.ensures) in
    pd_has_user c.self.inside.pd_users.items c.self.inside.cq_users.items c.self.inside.qps.items _ c.in-Some.pair c.self.invariant.pairs_counted found.1 found.2

pub count_one_less-requires-2-clause-inside : goal.count_one_less-requires-2-clause-inside
count_one_less-requires-2-clause-inside c =
    let found = qp_inside c.self.inside.qps.items c.args.qp c.in-Some.pair (ap (λ (o : Objects). qp_at o c.args.qp) c.self.view_is ∙ sym c.in-Some.ensures) in
    omega (arith, (pair_inside c.self.inside.pd_users.items c.self.inside.cq_users.items c.self.inside.qps.items _ c.in-Some.pair c.self.invariant.pairs_counted found.1 found.2).send)

pub count_one_less-requires-2-clause-some : goal.count_one_less-requires-2-clause-some
count_one_less-requires-2-clause-some c =
    let found = qp_inside c.self.inside.qps.items c.args.qp c.in-Some.pair (ap (λ (o : Objects). qp_at o c.args.qp) c.self.view_is ∙ sym c.in-Some.ensures) in
    send_has_user c.self.inside.pd_users.items c.self.inside.cq_users.items c.self.inside.qps.items _ c.in-Some.pair c.self.invariant.pairs_counted found.1 found.2

pub count_one_less-requires-3-clause-inside : goal.count_one_less-requires-3-clause-inside
count_one_less-requires-3-clause-inside c =
    let found = qp_inside c.self.inside.qps.items c.args.qp c.in-Some.pair (ap (λ (o : Objects). qp_at o c.args.qp) c.self.view_is ∙ sym c.in-Some.ensures) in
    omega (arith, (pair_inside c.self.inside.pd_users.items c.self.inside.cq_users.items c.self.inside.qps.items _ c.in-Some.pair c.self.invariant.pairs_counted found.1 found.2).recv, c.count_one_less-2.ensures.len)

pub count_one_less-requires-3-clause-some : goal.count_one_less-requires-3-clause-some
count_one_less-requires-3-clause-some c =
    let found = qp_inside c.self.inside.qps.items c.args.qp c.in-Some.pair (ap (λ (o : Objects). qp_at o c.args.qp) c.self.view_is ∙ sym c.in-Some.ensures) in
    recv_has_user c.self.inside.pd_users.items c.self.inside.cq_users.items c.count_one_less-2.new.users.items c.self.inside.qps.items _ c.in-Some.pair c.self.invariant.pairs_counted found.1 found.2 (omega (arith, c.count_one_less-2.ensures.len)) c.count_one_less-2.ensures.counted

pub invariant_of-self : goal.invariant_of-self
invariant_of-self c =
    let found = qp_inside c.self.inside.qps.items c.args.qp c.in-Some.pair (ap (λ (o : Objects). qp_at o c.args.qp) c.self.view_is ∙ sym c.in-Some.ensures) in
    record {
      pds = c.self.invariant.pds;
      uars = c.self.invariant.uars;
      eqs = c.self.invariant.eqs;
      cqs = c.self.invariant.cqs;
      qps = c.self.invariant.qps;
      pd_count = omega (arith, c.self.invariant.pd_count, c.count_one_less.ensures.len);
      eq_count = c.self.invariant.eq_count;
      cq_count = omega (arith, c.self.invariant.cq_count, c.count_one_less-2.ensures.len, c.count_one_less-3.ensures.len);
      eqs_counted = c.self.invariant.eqs_counted;
      pairs_counted = pair_goes c.self.inside.pd_users.items c.count_one_less.new.users.items c.self.inside.cq_users.items c.count_one_less-2.new.users.items c.count_one_less-3.new.users.items c.self.inside.qps.items _ c.in-Some.pair
          c.self.invariant.pairs_counted found.1 found.2 (omega (arith, c.count_one_less.ensures.len)) (omega (arith, c.count_one_less-2.ensures.len)) (omega (arith, c.count_one_less-3.ensures.len))
          c.count_one_less.ensures.counted c.count_one_less-2.ensures.counted c.count_one_less-3.ensures.counted;
    }
