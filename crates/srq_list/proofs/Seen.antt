-- The counts that a poster and a device see are those of the list.
use Rattle.std.proofs.Common.{◌≡◌, ℕ, ◌+◌, ◌-◌, ◌≤◌, arith}
use Rattle.bus_core.specs.Trace.{Memory}
use Rattle.srq_list.specs.declared.place.SrqPlace.{SrqPlace}
use Rattle.srq_list.specs.Place.{IsPlace, max_post}
use Rattle.srq_list.specs.Queue.{SharedQueue, MayBegin, MayRefuse, freed}
use Rattle.srq_list.specs.Poster.{Poster}
use Rattle.srq_list.specs.Freer.{Freer}
use Rattle.srq_list.specs.Device.{Taker, ready}
use Rattle.srq_list.proofs.Slots.{some_slots}
use Rattle.srq_list.proofs.Tied.{Tied}
use Rattle.srq_list.proofs.DeviceStep.{ready_is}

-- a poster that has room sees no more frees than there were, and enough for one receive more
pub record SeesRoom (place : SrqPlace) (q : SharedQueue) (count seen : ℕ) : Type 0 where
  pub least : seen ≤ freed place q
  pub enough : count + 1 ≤ seen + max_post place

pub sees_room : (place : SrqPlace) (q : SharedQueue) (pending : ℕ) → MayBegin q pending → SeesRoom place q (q.rung + pending) (q.rung + pending + 1 - max_post place)
sees_room place q pending may = record { least = omega (arith, may.room, some_slots place); enough = omega arith }

-- one that is full sees how many there were
pub sees_full : (place : SrqPlace) (q : SharedQueue) (pending slot : ℕ) → MayRefuse q pending slot → q.rung + pending - max_post place ≡ freed place q
sees_full place q pending slot may = omega (arith, may.last, some_slots place)

-- a device that loads the record sees how many receives were posted
pub sees_posted : (place : SrqPlace) (start : ℕ) (m : Memory) (p : Poster) (f : Freer) (d : Taker) (q : SharedQueue) (word : ℕ) → IsPlace place → Tied place start m p f d q → word ≡ m place.dbr → d.taken + ready start d word ≡ q.rung
sees_posted place start m p f d q word ok t is = omega (arith, ready_is place start m p f d q ok t word is, t.taker.taken, t.shape.taken)
