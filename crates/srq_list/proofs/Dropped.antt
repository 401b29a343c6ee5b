-- Words, users and list stay tied where a poster or a freer drops what is under way, with no operation.
use Rattle.std.proofs.Common.{◌≡◌, ℕ, ◌+◌, inr, refl, ap, ◌∙◌, arith, length, take, None}
use Rattle.bus_core.specs.Trace.{Memory}
use Rattle.srq_list.specs.declared.place.SrqPlace.{SrqPlace}
use Rattle.srq_list.specs.Place.{IsPlace}
use Rattle.srq_list.specs.Queue.{SharedQueue, slot_at, cut}
use Rattle.srq_list.specs.Poster.{Poster, dropped}
use Rattle.srq_list.specs.Freer.{Freer}
use Rattle.srq_list.specs.Device.{Taker}
use Rattle.srq_list.proofs.Tied.{Tied, Tied_freer}
use Rattle.srq_list.proofs.PosterStep.{count_left, tied_left}

-- the receives that were not rung leave the list
pub Tied_dropped : (place : SrqPlace) (start : ℕ) (m : Memory) (p : Poster) (f : Freer) (d : Taker) (q : SharedQueue) → IsPlace place → Tied place start m p f d q → Tied place start m (dropped p) f d (cut q 0)
Tied_dropped place start m p f d q ok t =
    let count : length (take (q.rung + 0) q.receives) ≡ q.rung + 0 = count_left place start m p f d q t 0 p.first (inr (refl, refl)) m q.rung (dropped p) (omega arith) (omega arith) in
    tied_left place start m p f d q t 0 p.first (inr (refl, refl)) m q.rung (dropped p) (omega arith) (omega arith) (λ a ne. refl) ok t.recorded (record {
      rung = t.poster.rung;
      first = t.poster.first;
      count = omega (arith, t.poster.rung, count);
      head = t.poster.first ∙ ap (slot_at q) (omega (arith, count));
      stage = tt;
    })

-- a link that is not followed by the tail word is none
pub Tied_unlinked : (place : SrqPlace) (start : ℕ) (m : Memory) (p : Poster) (f : Freer) (d : Taker) (q : SharedQueue) → Tied place start m p f d q → Tied place start m p (record { tail = f.tail; linked = None }) d q
Tied_unlinked place start m p f d q t = Tied_freer place start m p f (record { tail = f.tail; linked = None }) d q (record { tail = t.freer.tail; link = tt }) t
