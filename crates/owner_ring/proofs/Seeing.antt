-- The consumer index that the device's side saw is at most the acknowledged one, and leaves room for the entry that it stores.
use Rattle.std.proofs.Common.{ℕ, ◌+◌, ◌<◌, ◌≤◌, arith, eqb, ltb, [], ◌∷◌, ◌++◌, length}
use Rattle.std.proofs.lemmas.Bool.{cond_both, ltb-true}
use Rattle.bus_core.specs.declared.operation.BusEntry.{BusEntry}
use Rattle.bus_core.specs.Operation.{loaded, stored}
use Rattle.bus_core.specs.Trace.{Memory, Tells}
use Rattle.bus_core.proofs.Words.{load_tells}
use Rattle.owner_ring.specs.declared.place.RingPlace.{RingPlace}
use Rattle.owner_ring.specs.Place.{size, distance, IsPlace}
use Rattle.owner_ring.specs.Ring.{Ring}
use Rattle.owner_ring.specs.Producer.{Producer, Ready, Filling, MayProduce, after_produce, seen_after}
use Rattle.owner_ring.specs.Consumer.{Consumer}
use Rattle.owner_ring.proofs.Slots.{index_is}
use Rattle.owner_ring.proofs.Tied.{Tied}
use Rattle.owner_ring.proofs.ProducerStep.{shown}

-- an entry is stored only where the index that was seen leaves room for it
abbrev pub LeavesRoom : RingPlace → Producer → ℕ → Type 0
LeavesRoom place (Ready index) seen = Unit {0}
LeavesRoom place (Filling index words) seen = index < seen + size place

pub record Sees (place : RingPlace) (p : Producer) (ring : Ring) (seen : ℕ) : Type 0 where
  pub least : seen ≤ ring.acked
  pub room : LeavesRoom place p seen

-- an operation of the side, which acknowledges nothing
pub sees_on : (place : RingPlace) (m : Memory) (p : Producer) (c : Consumer) (ring : Ring) (seen : ℕ) (e : BusEntry) → IsPlace place → Tied place m p c ring → Tells m e → MayProduce place p e → Sees place p ring seen
    → Sees place (after_produce place p e) ring (seen_after p seen e)
sees_on place m (Ready i) c ring seen e ok t tells may s =
    let far = shown place m c ring i (loaded e) ok t (load_tells m e place.ci tells may.op may.at_address) in
    let is = index_is i ring.acked (loaded e) (omega (arith, t.producer)) far in
    record {
      least = omega (arith, is);
      room = cond_both (ltb (distance i (loaded e)) (size place)) (Filling i []) (Ready i) (λ (p : Producer). LeavesRoom place p (seen_after (Ready i) seen e))
          (λ near. omega (arith, ltb-true (distance i (loaded e)) (size place) near, far, is, t.producer)) (λ wide. tt);
    }
sees_on place m (Filling i words) c ring seen e ok t tells may s = record {
  least = s.least;
  room = cond_both (eqb (length words) 7) (Ready (i + 1)) (Filling i (words ++ stored e ∷ [])) (λ (p : Producer). LeavesRoom place p seen) (λ whole. tt) (λ part. s.room);
}

-- the acknowledged index only rises
pub sees_more : (place : RingPlace) (p : Producer) (ring ring' : Ring) (seen : ℕ) → ring.acked ≤ ring'.acked → Sees place p ring seen → Sees place p ring' seen
sees_more place p ring ring' seen rises s = record { least = omega (arith, s.least, rises); room = s.room }
