use Rattle.std.proofs.Common.{◌≡◌, Some, None, slice_index_or, sym, ap, ◌∙◌, arith}
use Rattle.device_commands.specs.Objects.{Objects, cq_at}
use Rattle.device_commands.proofs.Counted.{cq_goes, eq_has_user}
use Rattle.device_commands.proofs.Lives.{some_inside}
use Rattle.device_commands.proofs.objects.ObjectTables.destroy_cq.Goals as goal

pub count_one_less-requires-clause-inside : goal.count_one_less-requires-clause-inside
count_one_less-requires-clause-inside c =
    let cqs = c.self.inside.cqs.items in
    let is : slice_index_or cqs c.args.cq None ≡ Some c.in-Some.shape = ap (λ (o : Objects). cq_at o c.args.cq) c.self.view_is ∙ sym c.in-Some.ensures in
    omega (arith, (eq_has_user c.self.inside.eq_users.items cqs c.args.cq c.in-Some.shape c.self.invariant.eqs_counted (some_inside cqs c.args.cq c.in-Some.shape is) is).0)

pub count_one_less-requires-clause-some : goal.count_one_less-requires-clause-some
count_one_less-requires-clause-some c =
    let cqs = c.self.inside.cqs.items in
    let is : slice_index_or cqs c.args.cq None ≡ Some c.in-Some.shape = ap (λ (o : Objects). cq_at o c.args.cq) c.self.view_is ∙ sym c.in-Some.ensures in
    (eq_has_user c.self.inside.eq_users.items cqs c.args.cq c.in-Some.shape c.self.invariant.eqs_counted (some_inside cqs c.args.cq c.in-Some.shape is) is).1

pub invariant_of-self : goal.invariant_of-self
invariant_of-self c =
    let cqs = c.self.inside.cqs.items in
    let is : slice_index_or cqs c.args.cq None ≡ Some c.in-Some.shape = ap (λ (o : Objects). cq_at o c.args.cq) c.self.view_is ∙ sym c.in-Some.ensures in
    record {
      pds = c.self.invariant.pds;
      uars = c.self.invariant.uars;
      eqs = c.self.invariant.eqs;
      cqs = c.self.invariant.cqs;
      qps = c.self.invariant.qps;
      pd_count = c.self.invariant.pd_count;
      eq_count = omega (arith, c.self.invariant.eq_count, c.count_one_less.ensures.len);
      cq_count = c.self.invariant.cq_count;
      eqs_counted = cq_goes c.self.inside.eq_users.items c.count_one_less.new.users.items cqs c.args.cq c.in-Some.shape c.self.invariant.eqs_counted (some_inside cqs c.args.cq c.in-Some.shape is) is (omega (arith, c.count_one_less.ensures.len)) c.count_one_less.ensures.counted;
      pairs_counted = c.self.invariant.pairs_counted;
    }
