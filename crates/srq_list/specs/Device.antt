-- The rule of the device, over its own operations on the queue's words.
use Rattle.std.specs.Prelude.{ℕ, ◌+◌, ◌==◌, ◌++◌, List, [], ◌∷◌, length, Option, Some, None, if◌then◌else◌}
use Rattle.bus_core.specs.declared.operation.BusEntry.{BusEntry}
use Rattle.bus_core.specs.Operation.{IsLoad, loaded}
use Rattle.srq_list.specs.declared.place.SrqPlace.{SrqPlace}
use Rattle.srq_list.specs.Place.{entry_words, next_at, entry_at, next_of, record_of, shown}
use Rattle.srq_list.specs.Mark.{SrqMark, Take}
use Rattle.srq_list.specs.Queue.{SrqEvent, Showed, NoneThere, Took}

-- what a take has done: nothing; a load of the record, which shows a receive; a load of the slot behind it, and of these first words of its entry
pub data Progress : Type 0 where
  Asking : Progress
  Fetching : Progress
  Reading : (next : ℕ) (words : List ℕ) → Progress

-- how many receives it took, and the slot of the next one
pub record Taker : Type 0 where
  pub taken : ℕ
  pub slot : ℕ
  pub progress : Progress

abbrev pub at_progress : Taker → Progress → Taker
at_progress d progress = record d { progress = progress }

-- how many receives a record word shows that were not taken
abbrev pub ready : ℕ → Taker → ℕ → ℕ
ready start d word = shown (record_of start d.taken) word

abbrev pub MayTakeAt : SrqPlace → Taker → Progress → BusEntry → Type 0
MayTakeAt place d Asking e = IsLoad place.dbr e
MayTakeAt place d Fetching e = IsLoad (next_at place d.slot) e
MayTakeAt place d (Reading next words) e = IsLoad (entry_at place d.slot (length words)) e

-- A take loads the record, and where that shows a receive it loads the index of the next slot and the receive's entry.
abbrev pub MayTakeBy : SrqPlace → Taker → SrqMark → BusEntry → Type 0
MayTakeBy place d Take e = MayTakeAt place d d.progress e
MayTakeBy place d _ e = ⊥

-- the taker with these words of its entry
abbrev pub taker_with : SrqPlace → Taker → ℕ → List ℕ → Taker
taker_with place d next words =
    if length words == entry_words place then record { taken = d.taken + 1; slot = next; progress = Asking }
    else at_progress d (Reading next words)

abbrev pub after_take_at : SrqPlace → ℕ → Taker → Progress → BusEntry → Taker
after_take_at place start d Asking e = at_progress d (if ready start d (loaded e) == 0 then Asking else Fetching)
after_take_at place start d Fetching e = at_progress d (Reading (next_of place (loaded e)) [])
after_take_at place start d (Reading next words) e = taker_with place d next (words ++ loaded e ∷ [])

abbrev pub after_take : SrqPlace → ℕ → Taker → SrqMark → BusEntry → Taker
after_take place start d Take e = after_take_at place start d d.progress e
after_take place start d _ e = d

abbrev pub words_say : SrqPlace → ℕ → List ℕ → Option SrqEvent
words_say place slot words = if length words == entry_words place then Some (Took slot words) else None

abbrev pub take_says_at : SrqPlace → ℕ → Taker → Progress → BusEntry → Option SrqEvent
take_says_at place start d Asking e = if ready start d (loaded e) == 0 then Some (NoneThere d.taken) else Some (Showed (d.taken + ready start d (loaded e)))
take_says_at place start d Fetching e = None
take_says_at place start d (Reading next words) e = words_say place d.slot (words ++ loaded e ∷ [])

-- what an operation says, if it is a marked one
abbrev pub take_says : SrqPlace → ℕ → Taker → SrqMark → BusEntry → Option SrqEvent
take_says place start d Take e = take_says_at place start d d.progress e
take_says place start d _ e = None
