-- What an operation of a publication does to a completion queue's device.
use Rattle.std.specs.Prelude.{ℕ, ◌≡◌, true, Option, Some, None}
use Rattle.bus_core.specs.declared.operation.BusEntry.{BusEntry}
use Rattle.cqe_format.specs.declared.completion.Cqe.{Cqe}
use Rattle.owner_ring.specs.Place.{touches}
use Rattle.cq_pair.specs.Place.{ring_of}
use Rattle.cq_pair.specs.Device.{MayDeliver, after_deliver, delivered}
use Rattle.cq_pair.specs.DeviceView.{DeviceView, next_mark}
use Rattle.cq_pair.specs.Queue.{QueueEvent}
use Rattle.device_engine.specs.declared.outcome.Outcome.{Outcome}
use Rattle.device_engine.specs.Goes.{told_published}

-- a publication is over with its event
abbrev pub task_left : Option Cqe → Option QueueEvent → Option Cqe
task_left task None = task
task_left task (Some event) = None

pub record Publishes (cq : ℕ) (old new : DeviceView) (e : BusEntry) (told : Outcome) : Type 0 where
  pub may : MayDeliver old.place old.side (next_mark old) e
  pub inside : touches (ring_of old.place) e.addr ≡ true
  pub side : new.side ≡ after_deliver old.place old.side (next_mark old) e
  pub told_is : told ≡ told_published cq new.side.seen (delivered old.place old.side (next_mark old) e)
  pub task : new.task ≡ task_left old.task (delivered old.place old.side (next_mark old) e)
  pub place : new.place ≡ old.place
