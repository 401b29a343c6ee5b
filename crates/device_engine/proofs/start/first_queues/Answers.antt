use Rattle.std.proofs.Common.{◌≡◌, ℕ, ◌+◌, sym, ap, subst, arith, length}
use Rattle.verbs_types.specs.declared.declaration.Lines.{Lines}
use Rattle.device_engine.specs.First.{AreFirstQueues}
use Rattle.device_engine.proofs.Starting.{no_queues, one_queue_more}
use Rattle.device_engine.proofs.start.first_queues.Goals as goal

pub loop-place-init : goal.loop-place-init
loop-place-init c = subst (AreFirstQueues c.args.d.now 0) (sym c.new-queues.ensures.items) (no_queues c.args.d.now)

pub loop-place-preserved : goal.loop-place-preserved
loop-place-preserved c =
    subst (AreFirstQueues c.args.d.now (c.loop-place.place + 1)) (sym c.in_ok-push.ensures.items)
    (one_queue_more c.args.d.now c.loop-place.place c.loop-place.queues.items c.first_queue.result c.loop-place.invariant c.first_queue.ensures)

pub returns : goal.returns
returns c =
    let all : c.loop-place.place ≡ length c.args.d.now.cqs =
    omega (arith, c.loop-place-test.false, c.loop-place.auto.place-end, c.len-place-end.ensures, ap (λ (l : Lines). length l.cqs) c.lines.ensures.lines) in
    subst (λ (n : ℕ). AreFirstQueues c.args.d.now n c.loop-place.queues.items) all c.loop-place.invariant
