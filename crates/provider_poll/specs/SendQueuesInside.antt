-- How the fields of a poll's send queues are seen.
use Rattle.std.specs.Prelude.{List}
use Rattle.provider_poll.specs.declared.send_queues.SendQueues.TheInside.{Inside}
use Rattle.provider_poll.specs.SendQueue.{SendView}
use Rattle.provider_poll.specs.SendQueues.{HasEachPlace}

abbrev pub queues_view : Inside → List SendView
queues_view a = a.queues.items

pub record IsSendQueues (a : Inside) : Type 0 where
  pub places : HasEachPlace a.places.items a.queues.items
