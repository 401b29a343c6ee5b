-- What a shared receive queue's device is to a caller, and what a turn of it does.
use Rattle.std.specs.Prelude.{ℕ, ◌≡◌, ◌+◌, ◌-◌, ◌<◌, ◌==◌, ◌++◌, List, [], ◌∷◌, length, replicate, Bool, true, false, if◌then◌else◌}
use Rattle.bus_core.specs.declared.operation.BusEntry.{BusEntry}
use Rattle.bus_core.specs.declared.turn.Step.{Step}
use Rattle.bus_core.specs.declared.turn.Step.TheVariants.{More, Gave, Done}
use Rattle.bus_core.specs.Operation.{loaded}
use Rattle.srq_list.specs.declared.place.SrqPlace.{SrqPlace}
use Rattle.srq_list.specs.declared.device.SrqTaken.{SrqTaken}
use Rattle.srq_list.specs.declared.device.SrqTaken.TheVariants as answers
use Rattle.srq_list.specs.Place.{touches, entry_words, record_of}
use Rattle.srq_list.specs.Mark.{Take}
use Rattle.srq_list.specs.Device.{Progress, Asking, Fetching, Reading, Taker, MayTakeBy, after_take, ready}

pub record DeviceView : Type 0 where
  pub place : SrqPlace
  -- the first count of the record
  pub start : ℕ
  pub side : Taker
  -- whether a take is under way
  pub busy : Bool
  -- how many receives were posted, by the record that was loaded last, at first 0
  pub seen : ℕ

-- the words of an entry, and 0 behind them
abbrev pub padded : List ℕ → List ℕ
padded words = words ++ replicate (16 - length words) 0

-- what it answers: that none is there exactly where the record shows none, and else the receive, at the last load of its entry
abbrev pub take_answer : SrqPlace → ℕ → Taker → Progress → BusEntry → Step (Unit {0}) SrqTaken
take_answer place start d Asking e = if ready start d (loaded e) == 0 then Done (answers.NoneThere (record_of start d.taken)) else More
take_answer place start d Fetching e = More
take_answer place start d (Reading next words) e = if length (words ++ loaded e ∷ []) == entry_words place then Done (answers.Taken d.slot (padded (words ++ loaded e ∷ []))) else More

abbrev pub is_more : Step (Unit {0}) SrqTaken → Bool
is_more More = true
is_more (Gave part) = true
is_more (Done answer) = false

abbrev pub seen_after : ℕ → Taker → Progress → ℕ → BusEntry → ℕ
seen_after start d Asking seen e = d.taken + ready start d (loaded e)
seen_after start d _ seen e = seen

-- how many turns a take still takes
abbrev pub progress_turns : Progress → ℕ
progress_turns Asking = 18
progress_turns Fetching = 17
progress_turns (Reading next words) = 16 - length words

abbrev pub turns_left : Bool → Progress → ℕ
turns_left false progress = 0
turns_left true progress = progress_turns progress

-- one operation, which keeps the device's rule
pub record DeviceTurn (old new : DeviceView) (e : BusEntry) (answer : Step (Unit {0}) SrqTaken) : Type 0 where
  pub may : MayTakeBy old.place old.side Take e
  pub inside : touches old.place e.addr ≡ true
  pub side : new.side ≡ after_take old.place old.start old.side Take e
  pub answer_is : answer ≡ take_answer old.place old.start old.side old.side.progress e
  pub busy : new.busy ≡ is_more answer
  pub fewer : turns_left new.busy new.side.progress < turns_left old.busy old.side.progress
  pub seen : new.seen ≡ seen_after old.start old.side old.side.progress old.seen e
  pub place : new.place ≡ old.place
  pub start : new.start ≡ old.start

-- the device's side before its first operation: the first slot is the next one
abbrev pub fresh_side : Taker
fresh_side = record { taken = 0; slot = 0; progress = Asking }

abbrev pub fresh : SrqPlace → ℕ → DeviceView
fresh place start = record { place = place; start = start; side = fresh_side; busy = false; seen = 0 }
