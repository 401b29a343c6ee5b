-- The queues so far have room, and no queue has changed.
use Rattle.std.proofs.Common.{◌≡◌, length, map, take}
use Rattle.verbs_model.specs.Ends.{queue_of, HaveRoom}
use Rattle.verbs_model.proofs.abstract_state.ends.reserve_each.Given as goal

abbrev pub invariant-loop-polled : goal.invariant-loop-polled
invariant-loop-polled l = record {
  same : map queue_of l.queues ≡ map queue_of l.initial.queues;
  room : HaveRoom l.queues (length l.taken) (take l.polled-index l.taken);
}
