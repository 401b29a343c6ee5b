-- How the fields of a shared receive queue's device are seen.
use Rattle.std.specs.Prelude.{ℕ, ◌≡◌, ◌<◌, ◌≤◌, ◌^◌, List, take, Bool, true, false}
use Rattle.srq_list.specs.declared.place.SrqPlace.{SrqPlace}
use Rattle.srq_list.specs.declared.device.Phase.{Phase}
use Rattle.srq_list.specs.declared.device.Phase.TheVariants as phases
use Rattle.srq_list.specs.declared.device.SrqDevice.TheInside.{Inside}
use Rattle.srq_list.specs.Place.{IsPlace, entry_words}
use Rattle.srq_list.specs.Device.{Progress, Asking, Fetching, Reading}
use Rattle.srq_list.specs.DeviceView.{DeviceView, padded}

abbrev pub progress_in : ℕ → List ℕ → Phase → Progress
progress_in next words phases.Idle = Asking
progress_in next words phases.Asking = Asking
progress_in next words phases.Fetching = Fetching
progress_in next words (phases.Reading loaded) = Reading next (take loaded words)

abbrev pub busy_in : Phase → Bool
busy_in phases.Idle = false
busy_in _ = true

abbrev pub device_view : Inside → DeviceView
device_view a = record {
  place = a.place;
  start = a.start;
  side = record { taken = a.taken; slot = a.slot; progress = progress_in a.next a.words a.phase };
  busy = busy_in a.phase;
  seen = a.seen;
}

-- `loaded` words of an entry were read, and the others are 0
pub record IsReading (place : SrqPlace) (taken loaded : ℕ) (words : List ℕ) : Type 0 where
  pub low : taken < 2 ^ 62
  pub few : loaded < entry_words place
  pub rest : words ≡ padded (take loaded words)

pub record IsBefore (taken : ℕ) (words : List ℕ) : Type 0 where
  pub low : taken < 2 ^ 62
  pub rest : words ≡ padded (take 0 words)

abbrev pub IsAtWork : SrqPlace → ℕ → List ℕ → Phase → Type 0
IsAtWork place taken words phases.Idle = Unit {0}
IsAtWork place taken words phases.Asking = IsBefore taken words
IsAtWork place taken words phases.Fetching = IsBefore taken words
IsAtWork place taken words (phases.Reading loaded) = IsReading place taken loaded words

pub record IsDevice (a : Inside) : Type 0 where
  pub place_ok : IsPlace a.place
  pub low : a.taken ≤ 2 ^ 62
  pub work : IsAtWork a.place a.taken a.words a.phase
