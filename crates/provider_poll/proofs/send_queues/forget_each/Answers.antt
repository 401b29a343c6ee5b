use Rattle.std.proofs.Common.{◌∙◌, ap, sym, set}
use Rattle.provider_poll.specs.SendQueue.{SendView, forgotten_queue}
use Rattle.provider_poll.proofs.Changed.{next_changed}
use Rattle.provider_poll.proofs.send_queues.forget_each.Goals as goal

pub loop-queue-preserved : goal.loop-queue-preserved
loop-queue-preserved c =
    ap (λ (q : SendView). set c.loop-queue.queues c.loop-queue.queue-index q) (c.forget.ensures ∙ ap forgotten_queue (sym c.queue-item.is))
    ∙ next_changed forgotten_queue c.args.queues.now c.loop-queue.queues c.loop-queue.queue-index c.queue-item.result c.loop-queue.invariant c.loop-queue-test.true c.queue-item.is
