-- How the fields of a send queue are seen.
use Rattle.std.specs.Prelude.{◌≡◌, ◌^◌, ◌<◌, true}
use Rattle.counted_ring.specs.Place.{is_send}
use Rattle.provider_poll.specs.declared.send_queue.SendQueue.TheInside.{Inside}
use Rattle.provider_poll.specs.SendQueue.{SendView, task_of}

abbrev pub send_view : Inside → SendView
send_view a = record { number = a.number; place = a.retirer.place; side = a.retirer.side }

pub record IsSendQueue (a : Inside) : Type 0 where
  pub number : a.number < 2 ^ 24
  pub send : is_send a.retirer.place ≡ true
  pub task : a.retirer.task ≡ task_of a.retirer.side.asked
  pub tail : a.retirer.side.tail ≡ a.tail
  pub count : a.tail < 2 ^ 62
