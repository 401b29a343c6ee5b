-- What is left adds what all add from the beginning, and has room.
use Rattle.std.proofs.Common.{◌≡◌, ◌-◌, length, map, drop}
use Rattle.verbs_model.specs.Ends.{queue_of, HaveRoom, ended}
use Rattle.verbs_model.proofs.abstract_state.ends.end_each.Given as goal

abbrev pub invariant-loop-polled : goal.invariant-loop-polled
invariant-loop-polled l = record {
  left : ended (map queue_of l.queues) (drop l.polled-index l.taken) ≡ ended (map queue_of l.initial.queues) l.taken;
  room : HaveRoom l.queues (length l.taken - l.polled-index) (drop l.polled-index l.taken);
}
