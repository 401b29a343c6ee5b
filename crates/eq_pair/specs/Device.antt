-- The rule of the device's side, over its own operations on the queue's words.
use Rattle.std.specs.Prelude.{ℕ, ◌≡◌, ◌+◌, ◌==◌, ◌++◌, List, [], ◌∷◌, length, true, Option, Some, None, if◌then◌else◌}
use Rattle.bus_core.specs.declared.operation.BusEntry.{BusEntry}
use Rattle.bus_core.specs.Operation.{IsStore, stored}
use Rattle.verbs_types.specs.declared.completion.EventRecord.{EventRecord}
use Rattle.cqe_format.specs.Bytes.{entry_bytes}
use Rattle.cqe_format.specs.Event.{IsEqe}
use Rattle.owner_ring.specs.Place.{slot, is_owned}
use Rattle.eq_pair.specs.declared.place.EqPlace.{EqPlace}
use Rattle.eq_pair.specs.Place.{ring_of}
use Rattle.eq_pair.specs.Mark.{EqMark, Write}
use Rattle.eq_pair.specs.Queue.{EqEvent, Written}

-- what the side is before its next operation: at its next index, with these first words of that entry stored
pub record EventWriter : Type 0 where
  pub index : ℕ
  pub words : List ℕ

-- the words are this event's, and software owns them at this index
pub record IsEntryOf (place : EqPlace) (index : ℕ) (event : EventRecord) (words : List ℕ) (last : ℕ) : Type 0 where
  pub owned : is_owned (ring_of place) index last ≡ true
  pub spelled : IsEqe event (entry_bytes (words ++ last ∷ []))

pub record MayStore (place : EqPlace) (d : EventWriter) (event : EventRecord) (e : BusEntry) : Type 0 where
  pub store : IsStore (slot (ring_of place) d.index (length d.words)) (stored e) e
  pub whole : length d.words ≡ 7 → IsEntryOf place d.index event d.words (stored e)

-- An event is written by the stores of words 0 to 6 of its entry and then of word 7, with the owner bit of its index. No load comes before them.
abbrev pub MayWrite : EqPlace → EventWriter → EqMark → BusEntry → Type 0
MayWrite place d (Write event) e = MayStore place d event e
MayWrite place d _ e = ⊥

abbrev pub after_store : EventWriter → ℕ → EventWriter
after_store d word = if length d.words == 7 then record { index = d.index + 1; words = [] } else record { index = d.index; words = d.words ++ word ∷ [] }

abbrev pub after_write : EventWriter → EqMark → BusEntry → EventWriter
after_write d (Write event) e = after_store d (stored e)
after_write d _ e = d

-- what the operation says, if it is a marked one
abbrev pub writes : EventWriter → EqMark → Option EqEvent
writes d (Write event) = if length d.words == 7 then Some (Written d.index event) else None
writes d _ = None
