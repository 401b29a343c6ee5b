-- The rule of the freer, over its own operations on the queue's words.
use Rattle.std.specs.Prelude.{ℕ, ◌≡◌, ◌⊎◌, Option, Some, None}
use Rattle.bus_core.specs.declared.operation.BusEntry.{BusEntry}
use Rattle.bus_core.specs.Operation.{IsLoad, IsStore, loaded}
use Rattle.srq_list.specs.declared.place.SrqPlace.{SrqPlace}
use Rattle.srq_list.specs.Place.{next_at, id_at, link_word}
use Rattle.srq_list.specs.Mark.{SrqMark, Lookup, Link, Free}
use Rattle.srq_list.specs.Queue.{SrqEvent, Found, Freed}

-- the tail word that was stored last, at first the last slot, and the slot that is linked behind that one
pub record Freer : Type 0 where
  pub tail : ℕ
  pub linked : Option ℕ

pub record FreesSlot (place : SrqPlace) (f : Freer) (slot : ℕ) (e : BusEntry) : Type 0 where
  pub linked : f.linked ≡ Some slot
  pub store : IsStore place.tail slot e

-- A lookup loads the id word of a slot. A free stores the slot's index into the next segment of the last free slot, and then the tail word; one that has not stored the tail word may be dropped.
abbrev pub MayServe : SrqPlace → Freer → SrqMark → BusEntry → Type 0
MayServe place f (Lookup slot) e = IsLoad (id_at place slot) e
MayServe place f (Link slot) e = IsStore (next_at place f.tail) (link_word slot) e
MayServe place f (Free slot) e = FreesSlot place f slot e
MayServe place f _ e = ⊥

abbrev pub after_serve : Freer → SrqMark → Freer
after_serve f (Lookup slot) = f
after_serve f (Link slot) = record { tail = f.tail; linked = Some slot }
after_serve f (Free slot) = record { tail = slot; linked = None }
after_serve f _ = f

-- what an operation says, if it is a marked one
abbrev pub serve_says : SrqMark → BusEntry → Option SrqEvent
serve_says (Lookup slot) e = Some (Found slot (loaded e))
serve_says (Free slot) e = Some (Freed slot)
serve_says _ e = None

-- What a machine knows of its side may be less than the side's list tells: it has dropped a free.
pub record FreesLess (k f : Freer) : Type 0 where
  pub tail : k.tail ≡ f.tail
  pub linked : (k.linked ≡ f.linked) ⊎ (k.linked ≡ None)
