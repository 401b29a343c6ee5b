-- How the fields of a queue's device are seen.
use Rattle.std.specs.Prelude.{ℕ, ◌≡◌, List, [], Option, Some, None, option_map}
use Rattle.verbs_types.specs.declared.completion.EventRecord.{EventRecord}
use Rattle.cqe_format.specs.Bytes.{entry_bytes}
use Rattle.cqe_format.specs.Event.{IsEqe}
use Rattle.owner_ring.specs.Place.{IsPlace}
use Rattle.owner_ring.specs.Producer.{Producer, Ready, Filling}
use Rattle.owner_ring.specs.ProducerView.{ProducerView}
use Rattle.eq_pair.specs.declared.place.EqPlace.{EqPlace}
use Rattle.eq_pair.specs.declared.device.EqDevice.TheInside.{Inside}
use Rattle.eq_pair.specs.Place.{ring_of}
use Rattle.eq_pair.specs.Device.{EventWriter}
use Rattle.eq_pair.specs.DeviceView.{DeviceView}

-- the event at work
abbrev pub device_task : Inside → Option EventRecord
device_task a = option_map (λ snapshot. snapshot.value) a.event

abbrev pub writer_of : Producer → EventWriter
writer_of (Ready index) = record { index = index; words = [] }
writer_of (Filling index words) = record { index = index; words = words }

-- a device with such a producer
abbrev pub device_with : EqPlace → Option EventRecord → ProducerView → DeviceView
device_with place task ring = record { place = place; side = writer_of ring.side; task = task }

abbrev pub device_view : Inside → DeviceView
device_view a = device_with a.place (device_task a) a.ring

abbrev pub IsReady : Producer → Type 0
IsReady (Ready index) = Unit {0}
IsReady (Filling index words) = ⊥

abbrev pub IsFilling : Producer → Type 0
IsFilling (Ready index) = ⊥
IsFilling (Filling index words) = Unit {0}

pub record IsResting (task : Option (List ℕ)) (side : Producer) : Type 0 where
  pub task_is : task ≡ None
  pub ready : IsReady side

-- the ring is at work with the words of the event, and loads no consumer index before it stores them
pub record IsWriting (event : EventRecord) (task : Option (List ℕ)) (side : Producer) : Type 0 where
  pub words : List ℕ
  pub task_is : task ≡ Some words
  pub spelled : IsEqe event (entry_bytes words)
  pub filling : IsFilling side

abbrev pub IsAtWork : Option EventRecord → Option (List ℕ) → Producer → Type 0
IsAtWork None task side = IsResting task side
IsAtWork (Some event) task side = IsWriting event task side

pub record IsDevice (a : Inside) : Type 0 where
  pub place_ok : IsPlace (ring_of a.place)
  pub ring_is : a.ring.place ≡ ring_of a.place
  pub work : IsAtWork (device_task a) a.ring.task a.ring.side
