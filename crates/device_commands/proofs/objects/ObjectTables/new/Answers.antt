use Rattle.std.proofs.Common.{◌≤◌, ap, sym, subst, arith, length}
use Rattle.std.proofs.lemmas.List.{length-map}
use Rattle.device_commands.specs.Shapes.{eq_shape, cq_shape, qp_shape}
use Rattle.device_commands.specs.Users.{EqsCounted, PairsCounted}
use Rattle.device_commands.proofs.Fresh.{few_declared, no_cqs, no_pairs}
use Rattle.device_commands.proofs.objects.ObjectTables.new.Goals as goal

pub invariant_of-result : goal.invariant_of-result
invariant_of-result c =
    let few = few_declared c.args.lines.now c.requires in
    let eqs : length c.in_ok-declared.declared.eqs.items ≤ 8 = omega (arith, few.eqs, ap length c.in_ok-declared.ensures.eqs, length-map c.args.lines.now.eqs eq_shape) in
    let cqs : length c.in_ok-declared.declared.cqs.items ≤ 32 = omega (arith, few.cqs, ap length c.in_ok-declared.ensures.cqs, length-map c.args.lines.now.cqs cq_shape) in
    let qps : length c.in_ok-declared.declared.qps.items ≤ 64 = omega (arith, few.qps, ap length c.in_ok-declared.ensures.qps, length-map c.args.lines.now.qps qp_shape) in
    record {
      pds = record { few = omega (arith, c.in_ok-with_capacity.ensures.len); room = omega (arith, c.in_ok-with_capacity.ensures.exact); bounded = omega (arith, few.pds, c.in_ok-declared.ensures.pds) };
      uars = record { few = omega (arith, c.in_ok-with_capacity-2.ensures.len); room = omega (arith, c.in_ok-with_capacity-2.ensures.exact, c.len-eqs.ensures, c.len-cqs.ensures, c.len-qps.ensures); bounded = omega (arith, eqs, cqs, qps) };
      eqs = record { few = omega (arith, c.in_ok-with_capacity-3.ensures.len); room = omega (arith, c.in_ok-with_capacity-3.ensures.exact, c.len-eqs.ensures); bounded = omega (arith, eqs) };
      cqs = record { few = omega (arith, c.in_ok-with_capacity-4.ensures.len); room = omega (arith, c.in_ok-with_capacity-4.ensures.exact, c.len-cqs.ensures); bounded = omega (arith, cqs) };
      qps = record { few = omega (arith, c.in_ok-with_capacity-5.ensures.len); room = omega (arith, c.in_ok-with_capacity-5.ensures.exact, c.len-qps.ensures); bounded = omega (arith, qps) };
      pd_count = c.in_ok-vec.ensures.len;
      eq_count = omega (arith, c.in_ok-vec-2.ensures.len, c.len-eqs.ensures);
      cq_count = omega (arith, c.in_ok-vec-3.ensures.len, c.len-cqs.ensures);
      eqs_counted = subst (EqsCounted c.in_ok-vec-2.field-0.items) (sym c.in_ok-with_capacity-4.ensures.items) (no_cqs _ _ (c.in_ok-vec-2.ensures.items_if_clones_equal (λ y is. is)));
      pairs_counted = subst (PairsCounted c.in_ok-vec.field-0.items c.in_ok-vec-3.field-0.items) (sym c.in_ok-with_capacity-5.ensures.items) (no_pairs _ _ _ _ (c.in_ok-vec.ensures.items_if_clones_equal (λ y is. is)) (c.in_ok-vec-3.ensures.items_if_clones_equal (λ y is. is)));
    }
