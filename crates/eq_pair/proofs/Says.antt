-- Where the operations of the two sides are, and which events each can say.
use Rattle.std.proofs.Common.{◌≡◌, ℕ, ◌<◌, arith, true, eqb, List, [], ◌∷◌, length, Option, Some, None}
use Rattle.std.proofs.lemmas.Bool.{cond_both}
use Rattle.bus_core.specs.declared.operation.BusEntry.{BusEntry}
use Rattle.bus_core.specs.Operation.{loaded}
use Rattle.bus_core.specs.Trace.{Memory}
use Rattle.owner_ring.specs.Place.{is_owned, touches}
use Rattle.owner_ring.specs.Ring.{Ring}
use Rattle.owner_ring.specs.Consumer.{Consumer}
use Rattle.owner_ring.proofs.Slots.{touches_slot, touches_record}
use Rattle.owner_ring.proofs.Tied as ring_tied
use Rattle.eq_pair.specs.declared.place.EqPlace.{EqPlace}
use Rattle.eq_pair.specs.Place.{ring_of}
use Rattle.eq_pair.specs.Mark.{EqMark, Write, Look, Read, Take, Register, Foreign}
use Rattle.eq_pair.specs.Queue.{EventList, EqEvent, Written, Took, NoEvent, Gave}
use Rattle.eq_pair.specs.Device.{EventWriter, MayWrite, writes}
use Rattle.eq_pair.specs.Host.{EventTaker, Waiting, Reading, Holding, next_index, consumer_of, MayTake, takes}
use Rattle.eq_pair.proofs.Tied.{Tied, producer_at}

few_words : (place : EqPlace) (m : Memory) (c : Consumer) (entries : Ring) (i : ℕ) (words : List ℕ) → ring_tied.Tied (ring_of place) m (producer_at i words) c entries → length words < 8
few_words place m c entries i [] t = omega arith
few_words place m c entries i (w ∷ words) t = omega (arith, t.producer.few)

pub write_inside : (place : EqPlace) (m : Memory) (d : EventWriter) (h : EventTaker) (q : EventList) (mark : EqMark) (e : BusEntry) → Tied place m d h q → MayWrite place d mark e → touches (ring_of place) e.addr ≡ true
write_inside place m d h q (Write event) e t may = rw may.store.at_address (touches_slot (ring_of place) d.index (length d.words) (few_words place m (consumer_of h) t.entries d.index d.words t.ring))
write_inside place m d h q Look e t may = absurd may
write_inside place m d h q Read e t may = absurd may
write_inside place m d h q (Take event) e t may = absurd may
write_inside place m d h q Register e t may = absurd may
write_inside place m d h q Foreign e t may = absurd may

pub take_inside : (place : EqPlace) (h : EventTaker) (mark : EqMark) (e : BusEntry) → MayTake place h mark e → touches (ring_of place) e.addr ≡ true
take_inside place h (Write event) e may = absurd may
take_inside place h Look e may = rw may.at_address (touches_slot (ring_of place) (next_index h) 7 (omega arith))
take_inside place (Waiting i) Read e may = absurd may
take_inside place (Reading i last ws) Read e may = rw may.load.at_address (touches_slot (ring_of place) i (length ws) (omega (arith, may.part)))
take_inside place (Holding i held) Read e may = absurd may
take_inside place (Waiting i) (Take event) e may = absurd may
take_inside place (Reading i last ws) (Take event) e may = rw may.load.at_address (touches_slot (ring_of place) i 6 (omega arith))
take_inside place (Holding i held) (Take event) e may = absurd may
take_inside place (Waiting i) Register e may = absurd may
take_inside place (Reading i last ws) Register e may = absurd may
take_inside place (Holding i event) Register e may = rw may.at_address (touches_record (ring_of place))
take_inside place h Foreign e may = absurd may

abbrev pub IsWriting : Option EqEvent → Type 0
IsWriting None = Unit {0}
IsWriting (Some (Written index event)) = Unit {0}
IsWriting (Some (Took index event)) = ⊥
IsWriting (Some (NoEvent index)) = ⊥
IsWriting (Some (Gave index event)) = ⊥

pub writes_says : (d : EventWriter) (mark : EqMark) → IsWriting (writes d mark)
writes_says d (Write event) = cond_both (eqb (length d.words) 7) (Some (Written d.index event)) None IsWriting (λ t. tt) (λ t. tt)
writes_says d Look = tt
writes_says d Read = tt
writes_says d (Take event) = tt
writes_says d Register = tt
writes_says d Foreign = tt

abbrev pub IsTaking : Option EqEvent → Type 0
IsTaking None = Unit {0}
IsTaking (Some (Written index event)) = ⊥
IsTaking (Some (Took index event)) = Unit {0}
IsTaking (Some (NoEvent index)) = Unit {0}
IsTaking (Some (Gave index event)) = Unit {0}

pub takes_says : (place : EqPlace) (h : EventTaker) (mark : EqMark) (e : BusEntry) → IsTaking (takes place h mark e)
takes_says place h (Write event) e = tt
takes_says place h Look e = cond_both (is_owned (ring_of place) (next_index h) (loaded e)) None (Some (NoEvent (next_index h))) IsTaking (λ t. tt) (λ t. tt)
takes_says place h Read e = tt
takes_says place h (Take event) e = tt
takes_says place (Waiting i) Register e = tt
takes_says place (Reading i last ws) Register e = tt
takes_says place (Holding i event) Register e = tt
takes_says place h Foreign e = tt
