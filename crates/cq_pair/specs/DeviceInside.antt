-- How the fields of a queue's device are seen.
use Rattle.std.specs.Prelude.{ℕ, ◌≡◌, Bool, true, false, List, Option, Some, None, option_map}
use Rattle.cqe_format.specs.declared.completion.Cqe.{Cqe}
use Rattle.cqe_format.specs.Bytes.{entry_bytes}
use Rattle.cqe_format.specs.Completion.{IsCqe}
use Rattle.owner_ring.specs.Place.{IsPlace}
use Rattle.owner_ring.specs.ProducerView.{ProducerView}
use Rattle.cq_pair.specs.declared.place.CqPlace.{CqPlace}
use Rattle.cq_pair.specs.declared.device.CqDevice.TheInside.{Inside}
use Rattle.cq_pair.specs.Place.{ring_of}
use Rattle.cq_pair.specs.DeviceView.{DeviceView}

-- the completion at work
abbrev pub device_task : Inside → Option Cqe
device_task a = option_map (λ snapshot. snapshot.value) a.completion

-- a device with such a producer
abbrev pub device_with : CqPlace → Bool → Option Cqe → ProducerView → DeviceView
device_with place overrun task ring = record { place = place; side = record { producer = ring.side; overrun = overrun; seen = ring.seen }; task = task }

abbrev pub device_view : Inside → DeviceView
device_view a = device_with a.place a.overrun (device_task a) a.ring

-- the ring is at work with the words of the completion, but where the queue has overrun
pub record IsPublishing (completion : Cqe) (task : Option (List ℕ)) : Type 0 where
  pub words : List ℕ
  pub task_is : task ≡ Some words
  pub spelled : IsCqe completion (entry_bytes words)

abbrev pub IsAtWork : Option Cqe → Bool → Option (List ℕ) → Type 0
IsAtWork None overrun task = task ≡ None
IsAtWork (Some completion) true task = task ≡ None
IsAtWork (Some completion) false task = IsPublishing completion task

pub record IsDevice (a : Inside) : Type 0 where
  pub place_ok : IsPlace (ring_of a.place)
  pub ring_is : a.ring.place ≡ ring_of a.place
  pub work : IsAtWork (device_task a) a.overrun a.ring.task
