-- How the fields of a queue's device are seen.
use Rattle.std.specs.Prelude.{ℕ, ◌≡◌, ◌*◌, ◌<◌, ◌≤◌, ◌^◌, true, List, [], take, slice_index, Option, Some, None}
use Rattle.counted_ring.specs.declared.place.WqPlace.{WqPlace}
use Rattle.counted_ring.specs.declared.device.Phase.{Phase}
use Rattle.counted_ring.specs.declared.device.Phase.TheVariants as phases
use Rattle.counted_ring.specs.declared.device.WqDevice.TheInside.{Inside}
use Rattle.counted_ring.specs.Place.{IsPlace, has_register}
use Rattle.counted_ring.specs.Device.{reach}
use Rattle.counted_ring.specs.DeviceView.{DeviceView, DeviceTask, Look, Record, Read}

abbrev pub words_in : Phase → List ℕ → List ℕ
words_in phases.Idle words = []
words_in phases.Looking words = []
words_in phases.Asking words = []
words_in (phases.Reading loaded) words = take loaded words

abbrev pub task_in : Phase → Option DeviceTask
task_in phases.Idle = None
task_in phases.Looking = Some Look
task_in phases.Asking = Some Record
task_in (phases.Reading loaded) = Some Read

abbrev pub device_view : Inside → DeviceView
device_view a = record { place = a.place; side = record { next = a.next; ready = a.ready; register = a.register; words = words_in a.phase a.words }; task = task_in a.phase }

-- part of an entry was read, within what the record showed
pub record IsReading (place : WqPlace) (next ready loaded : ℕ) (words : List ℕ) : Type 0 where
  pub ready_some : 0 < ready
  pub low : next < 2 ^ 62
  pub few : loaded < 32
  pub behind : (k : ℕ) → loaded ≤ k → slice_index words k ≡ 0
  pub part : 0 < loaded → loaded < reach place ready (slice_index words 0) * place.stride

abbrev pub IsAtWork : WqPlace → ℕ → ℕ → List ℕ → Phase → Type 0
IsAtWork place next ready words phases.Idle = Unit {0}
IsAtWork place next ready words phases.Looking = has_register place.reg ≡ true
IsAtWork place next ready words phases.Asking = Unit {0}
IsAtWork place next ready words (phases.Reading loaded) = IsReading place next ready loaded words

pub record IsDevice (a : Inside) : Type 0 where
  pub place_ok : IsPlace a.place
  pub low : a.next < 2 ^ 63
  pub few : a.ready < 2 ^ 16
  pub work : IsAtWork a.place a.next a.ready a.words a.phase
