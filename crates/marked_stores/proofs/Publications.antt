-- An operation of a publication loads, stores a word that is no news, or publishes.
use Rattle.std.proofs.Common.{◌≡◌, ℕ, ◌<◌, ◌≤◌, ◌==◌, refl, arith, Bool, true, false, if◌then◌else◌, List, ◌∷◌, [], ◌++◌, length, Option, None, Some}
use Rattle.std.proofs.lemmas.Bool.{eqb-false}
use Rattle.bus_core.specs.declared.operation.BusEntry.{BusEntry}
use Rattle.bus_core.specs.declared.operation.BusOp.TheVariants.{Load}
use Rattle.bus_core.specs.Operation.{stored}
use Rattle.bus_core.specs.Trace.{Memory}
use Rattle.cqe_format.specs.declared.completion.Cqe.{Cqe}
use Rattle.owner_ring.specs.declared.place.RingPlace.{RingPlace}
use Rattle.owner_ring.specs.Place.{slot}
use Rattle.owner_ring.specs.Producer.{Producer, Ready, Filling, MayProduce}
use Rattle.owner_ring.specs.Producer as ring_side
use Rattle.owner_ring.specs.Ring.{Ring, RingEvent}
use Rattle.owner_ring.specs.Ring as ring
use Rattle.owner_ring.proofs.Tied.{ProducerFits}
use Rattle.cq_pair.specs.declared.place.CqPlace.{CqPlace}
use Rattle.cq_pair.specs.Device.{QueueDevice, MayDeliver, delivered, published_as}
use Rattle.cq_pair.specs.DeviceView.{mark_of}
use Rattle.cq_pair.specs.Place.{ring_of}
use Rattle.cq_pair.specs.Queue.{QueueEvent, Published}

-- a word of an entry that is not its last
pub record IsPlainWord (place : RingPlace) (a : ℕ) : Type 0 where
  pub index : ℕ
  pub word : ℕ
  pub early : word < 7
  pub is : a ≡ slot place index word

pub data Delivers (place : CqPlace) (c : Cqe) (e : BusEntry) (said : Option QueueEvent) : Type 0 where
  Loads : e.op ≡ Load → Delivers place c e said
  Fills : IsPlainWord (ring_of place) e.addr → Delivers place c e said
  Publishes : (index : ℕ) → said ≡ Some (Published index c) → Delivers place c e said

module _ (place : CqPlace) (c : Cqe) (e : BusEntry) where
  fills : (index : ℕ) (words : List ℕ) → length words ≤ 7 → e.addr ≡ slot (ring_of place) index (length words) → (last : Bool) → (length words == 7) ≡ last
      → Delivers place c e (published_as c (if last then Some (ring.Published index (words ++ stored e ∷ [])) else None))
  fills index words few is true same = Publishes index refl
  fills index words few is false differs = Fills (record { index = index; word = length words; early = omega (arith, few, eqb-false (length words) 7 differs); is = is })

  produces : (m : Memory) (entries : Ring) (producer : Producer) → ProducerFits (ring_of place) m entries producer → MayProduce (ring_of place) producer e → Delivers place c e (published_as c (ring_side.produced (ring_of place) producer e))
  produces m entries (Ready index) fits may = Loads may.op
  produces m entries (Filling index words) fits may = fills index words fits.few may.0.at_address (length words == 7) refl

  pub delivers : (m : Memory) (entries : Ring) (device : QueueDevice) (overrun : Bool) → ProducerFits (ring_of place) m entries device.producer → MayDeliver place device (mark_of (Some c) overrun) e
      → Delivers place c e (delivered place device (mark_of (Some c) overrun) e)
  delivers m entries device true fits may = Loads may.load.op
  delivers m entries device false fits may = produces m entries device.producer fits may.ring
