-- How the fields of queues are seen.
use Rattle.std.specs.Prelude.{◌-◌}
use Rattle.std.specs.VecDeque.{deque_len, deque_capacity}
use Rattle.verbs_model.specs.declared.work_queue.WorkQueue.TheInside.{Inside}
use Rattle.verbs_model.specs.Held.{Held}

abbrev pub held : Inside → Held
held q = record {
  queue = record { room = q.room; segments = q.segments; posted = q.posted.items; taken = q.taken; retired = q.retired; ends = q.ends.items };
  spare = deque_capacity q.ends - deque_len q.ends;
}
