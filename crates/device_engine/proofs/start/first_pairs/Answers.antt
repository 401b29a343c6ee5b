use Rattle.std.proofs.Common.{◌≡◌, ℕ, ◌+◌, sym, ap, subst, arith, length}
use Rattle.verbs_types.specs.declared.declaration.Lines.{Lines}
use Rattle.device_engine.specs.First.{AreFirstPairs}
use Rattle.device_engine.proofs.Starting.{no_pairs, one_pair_more}
use Rattle.device_engine.proofs.start.first_pairs.Goals as goal

pub loop-place-init : goal.loop-place-init
loop-place-init c = subst (AreFirstPairs c.args.d.now 0) (sym c.new-pairs.ensures.items) (no_pairs c.args.d.now)

pub loop-place-preserved : goal.loop-place-preserved
loop-place-preserved c =
    subst (AreFirstPairs c.args.d.now (c.loop-place.place + 1)) (sym c.in_ok-push.ensures.items)
    (one_pair_more c.args.d.now c.loop-place.place c.loop-place.pairs.items c.first_pair.result c.loop-place.invariant c.first_pair.ensures)

pub returns : goal.returns
returns c =
    let all : c.loop-place.place ≡ length c.args.d.now.qps =
    omega (arith, c.loop-place-test.false, c.loop-place.auto.place-end, c.len-place-end.ensures, ap (λ (l : Lines). length l.qps) c.lines.ensures.lines) in
    subst (λ (n : ℕ). AreFirstPairs c.args.d.now n c.loop-place.pairs.items) all c.loop-place.invariant
