-- The rule of the host's side, over its own operations on the queue's words.
use Rattle.std.specs.Prelude.{ℕ, ◌≡◌, ◌+◌, ◌<◌, ◌++◌, List, [], ◌∷◌, length, Option, Some, None, if◌then◌else◌}
use Rattle.bus_core.specs.declared.operation.BusEntry.{BusEntry}
use Rattle.bus_core.specs.Operation.{IsLoad, IsStore, loaded}
use Rattle.verbs_types.specs.declared.completion.EventRecord.{EventRecord}
use Rattle.cqe_format.specs.Bytes.{entry_bytes}
use Rattle.cqe_format.specs.Event.{IsEqe, IsSomeEqe}
use Rattle.owner_ring.specs.Place.{slot, is_owned}
use Rattle.owner_ring.specs.Consumer.{Consumer}
use Rattle.owner_ring.specs.Consumer as ring
use Rattle.eq_pair.specs.declared.place.EqPlace.{EqPlace}
use Rattle.eq_pair.specs.Place.{ring_of, register_of}
use Rattle.eq_pair.specs.Mark.{EqMark, Look, Read, Take, Register}
use Rattle.eq_pair.specs.Queue.{EqEvent, Took, NoEvent, Gave}

-- What the side is before its next operation, at the index that its register shows: with nothing of that entry, with its last word and these first words of it, or with the event that it took.
pub data EventTaker : Type 0 where
  Waiting : (index : ℕ) → EventTaker
  Reading : (index last : ℕ) (words : List ℕ) → EventTaker
  Holding : (index : ℕ) (event : EventRecord) → EventTaker

abbrev pub next_index : EventTaker → ℕ
next_index (Waiting index) = index
next_index (Reading index last words) = index
next_index (Holding index event) = index

-- What it is to the ring: an entry that was taken is not acknowledged before the register is stored.
abbrev pub consumer_of : EventTaker → Consumer
consumer_of (Waiting index) = ring.Waiting index index
consumer_of (Reading index last words) = ring.Reading index index index last words
consumer_of (Holding index event) = ring.Waiting index (index + 1)

-- the event that the words spell, if they spell one
abbrev pub IsReadAs : List ℕ → EventRecord → Type 0
IsReadAs words event = IsSomeEqe (entry_bytes words) → IsEqe event (entry_bytes words)

-- the words of an entry, read after its last one
abbrev pub whole_entry : List ℕ → ℕ → ℕ → List ℕ
whole_entry words word last = words ++ word ∷ last ∷ []

pub record IsNextWord (place : EqPlace) (index : ℕ) (words : List ℕ) (e : BusEntry) : Type 0 where
  pub part : length words < 6
  pub load : IsLoad (slot (ring_of place) index (length words)) e

pub record IsLastWord (place : EqPlace) (index last : ℕ) (words : List ℕ) (event : EventRecord) (e : BusEntry) : Type 0 where
  pub rest : length words ≡ 6
  pub load : IsLoad (slot (ring_of place) index 6) e
  pub read_as : IsReadAs (whole_entry words (loaded e) last) event

abbrev pub MayRead : EqPlace → EventTaker → BusEntry → Type 0
MayRead place (Reading index last words) e = IsNextWord place index words e
MayRead place _ e = ⊥

abbrev pub MayFinish : EqPlace → EventTaker → EventRecord → BusEntry → Type 0
MayFinish place (Reading index last words) event e = IsLastWord place index last words event e
MayFinish place _ event e = ⊥

abbrev pub MayRegister : EqPlace → EventTaker → BusEntry → Type 0
MayRegister place (Holding index event) e = IsStore place.reg (register_of place (index + 1)) e
MayRegister place _ e = ⊥

-- A taking looks at word 7 of the next entry, and where software owns it loads words 0 to 6. It then stores the register, and no other entry is looked at before. A look may begin anew at any moment, since a taking may be dropped.
abbrev pub MayTake : EqPlace → EventTaker → EqMark → BusEntry → Type 0
MayTake place h Look e = IsLoad (slot (ring_of place) (next_index h) 7) e
MayTake place h Read e = MayRead place h e
MayTake place h (Take event) e = MayFinish place h event e
MayTake place h Register e = MayRegister place h e
MayTake place h _ e = ⊥

abbrev pub after_read : EventTaker → ℕ → EventTaker
after_read (Reading index last words) word = Reading index last (words ++ word ∷ [])
after_read h word = h

abbrev pub after_register : EventTaker → EventTaker
after_register (Holding index event) = Waiting (index + 1)
after_register h = h

abbrev pub after_look : EqPlace → ℕ → ℕ → EventTaker
after_look place index word = if is_owned (ring_of place) index word then Reading index word [] else Waiting index

abbrev pub after_take : EqPlace → EventTaker → EqMark → BusEntry → EventTaker
after_take place h Look e = after_look place (next_index h) (loaded e)
after_take place h Read e = after_read h (loaded e)
after_take place h (Take event) e = Holding (next_index h) event
after_take place h Register e = after_register h
after_take place h _ e = h

abbrev pub gave : EventTaker → Option EqEvent
gave (Holding index event) = Some (Gave index event)
gave _ = None

abbrev pub looked : EqPlace → ℕ → ℕ → Option EqEvent
looked place index word = if is_owned (ring_of place) index word then None else Some (NoEvent index)

-- what the operation says, if it is a marked one
abbrev pub takes : EqPlace → EventTaker → EqMark → BusEntry → Option EqEvent
takes place h Look e = looked place (next_index h) (loaded e)
takes place h (Take event) e = Some (Took (next_index h) event)
takes place h Register e = gave h
takes place h _ e = None

-- What a machine knows of its side may be less than the side's list tells: it has dropped a taking.
abbrev pub KnowsLess : EventTaker → EventTaker → Type 0
KnowsLess (Waiting index) h = index ≡ next_index h
KnowsLess (Reading index last words) h = Reading index last words ≡ h
KnowsLess (Holding index event) h = Holding index event ≡ h
