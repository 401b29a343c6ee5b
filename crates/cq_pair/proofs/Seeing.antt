-- What the device's side has seen serves for what each operation says.
use Rattle.std.proofs.Common.{◌≡◌, ℕ, ◌≤◌, refl, sym, ◌∙◌, arith, true, eqb, ltb, List, [], ◌∷◌, ◌++◌, length, Option, Some, None}
use Rattle.std.specs.Prelude.{map}
use Rattle.std.proofs.lemmas.Bool.{cond_both, cond-true}
use Rattle.bus_core.specs.declared.operation.BusEntry.{BusEntry}
use Rattle.bus_core.specs.Follow.{Follows}
use Rattle.bus_core.specs.Mark.{Marked}
use Rattle.bus_core.specs.Operation.{loaded, stored}
use Rattle.bus_core.specs.Trace.{Memory, Tells, after_entry, IsConsistent}
use Rattle.bus_core.specs.TwoSides.{Party, Device, Host, Bystander, party, may_by, after_by, says_by, MayAny, after_any}
use Rattle.bus_core.proofs.TwoSided.{keeps_all}
use Rattle.bus_core.proofs.Words.{harmless_kept}
use Rattle.cqe_format.specs.declared.completion.Cqe.{Cqe}
use Rattle.owner_ring.specs.Place.{size, touches, distance, index_of_record, IsPlace}
use Rattle.owner_ring.specs.Ring as ring
use Rattle.owner_ring.specs.Ring.{RingEvent}
use Rattle.owner_ring.specs.Producer.{Producer, Ready, Filling, MayProduce, seen_after}
use Rattle.owner_ring.specs.Producer as ring_side
use Rattle.owner_ring.specs.Consumer.{Consumer}
use Rattle.owner_ring.proofs.Seeing.{Sees, sees_on}
use Rattle.owner_ring.proofs.Tied as ring_tied
use Rattle.cq_pair.specs.declared.place.CqPlace.{CqPlace}
use Rattle.cq_pair.specs.Place.{ring_of}
use Rattle.cq_pair.specs.Mark.{QueueMark, Publish, Lose, Look, Read, Take, Acknowledge, Foreign, role_of}
use Rattle.cq_pair.specs.Queue.{PlainQueue, QueueEvent}
use Rattle.cq_pair.specs.Queue as queue
use Rattle.cq_pair.specs.Device.{QueueDevice, MayDeliver, after_deliver, seen_by, delivered, published_as}
use Rattle.cq_pair.specs.Law.{queue_object, IsRun}
use Rattle.cq_pair.specs.Seeing.{SeenServes, RunState, after_said, next_state, HasSeen, SeesEnough, first_state}
use Rattle.cq_pair.proofs.Tied.{Tied, Tied_kept, Goes, same_produced}
use Rattle.cq_pair.proofs.DeviceStep.{device_step}
use Rattle.cq_pair.proofs.HostStep.{host_step}
use Rattle.cq_pair.proofs.Law.{start_tied}
use Rattle.cq_pair.proofs.Says.{IsPolling, polled_says}

module _ (place : CqPlace) (m : Memory) (d : QueueDevice) (h : Consumer) (q : PlainQueue) (e : BusEntry) (ok : IsPlace (ring_of place)) (t : Tied place m d h q) (tells : Tells m e) where
  -- a publication's operation, by what the ring's producer is at
  produces : (completion : Cqe) (p : Producer) → ring_tied.Tied (ring_of place) m p h t.entries → Sees (ring_of place) p t.entries d.seen → MayProduce (ring_of place) p e
      → SeenServes (size (ring_of place)) q (seen_after p d.seen e) (published_as completion (ring_side.produced (ring_of place) p e))
  produces completion (Ready i) tied sees may =
      let least = (sees_on (ring_of place) m (Ready i) h t.entries d.seen e ok tied tells may sees).least in
      cond_both (ltb (distance i (loaded e)) (size (ring_of place))) None (Some (ring.Full i (index_of_record i (loaded e)))) (λ (said : Option RingEvent). SeenServes (size (ring_of place)) q (index_of_record i (loaded e)) (published_as completion said))
      (λ near. omega (arith, least, t.fits.acked)) (λ wide. omega (arith, least, t.fits.acked))
  produces completion (Filling i words) tied sees may =
      cond_both (eqb (length words) 7) (Some (ring.Published i (words ++ stored e ∷ []))) None (λ (said : Option RingEvent). SeenServes (size (ring_of place)) q d.seen (published_as completion said))
      (λ whole. record { least = omega (arith, sees.least, t.fits.acked); enough = omega (arith, sees.room, tied.producer.next, same_produced t.entries d h q t.fits) })
      (λ part. omega (arith, sees.least, t.fits.acked))

  -- an operation of the device's side
  pub device_sees : (mark : QueueMark) → MayDeliver place d mark e → SeenServes (size (ring_of place)) q (after_deliver place d mark e).seen (delivered place d mark e)
  device_sees (Publish completion) may = produces completion d.producer t.ring t.sees may.ring
  device_sees Lose may = omega (arith, t.sees.least, t.fits.acked)
  device_sees (Look i) may = absurd may
  device_sees Read may = absurd may
  device_sees (Take completion) may = absurd may
  device_sees (Acknowledge i) may = absurd may
  device_sees Foreign may = absurd may

pub seen_after_deliver : (place : CqPlace) (d : QueueDevice) (mark : QueueMark) (e : BusEntry) → (after_deliver place d mark e).seen ≡ seen_by d mark e
seen_after_deliver place d (Publish completion) e = refl
seen_after_deliver place d Lose e = refl
seen_after_deliver place d (Look i) e = refl
seen_after_deliver place d Read e = refl
seen_after_deliver place d (Take completion) e = refl
seen_after_deliver place d (Acknowledge i) e = refl
seen_after_deliver place d Foreign e = refl

-- one of the host's side publishes nothing
host_sees : (size seen : ℕ) (q : PlainQueue) (said : Option QueueEvent) → IsPolling said → seen ≤ q.acked → SeenServes size q seen said
host_sees size seen q None says least = least
host_sees size seen q (Some (queue.Published index completion)) says least = absurd says
host_sees size seen q (Some (queue.Overrun index ci)) says least = least
host_sees size seen q (Some queue.Lost) says least = least
host_sees size seen q (Some (queue.Took index completion)) says least = least
host_sees size seen q (Some (queue.Empty index)) says least = least
host_sees size seen q (Some (queue.Acked ci)) says least = least

tied_after : (place : CqPlace) (m : Memory) (d : QueueDevice) (h : Consumer) (q : PlainQueue) (said : Option QueueEvent) → Goes place m d h q said → Tied place m d h (after_said q said)
tied_after place m d h q None g = g
tied_after place m d h q (Some event) g = g.1

module _ (place : CqPlace) (ok : IsPlace (ring_of place)) where
  abbrev TiedSides : Memory → RunState → Type 0
  TiedSides m s = Tied place m s.sides.device s.sides.host s.queue

  abbrev NextBy : Party → RunState → Marked QueueMark → RunState
  NextBy p s x = record { sides = after_by (queue_object place) p s.sides x; queue = after_said s.queue (says_by (queue_object place) p s.sides x) }

  abbrev SeenBy : Party → RunState → Marked QueueMark → Type 0
  SeenBy p s x = SeenServes (size (ring_of place)) s.queue (after_by (queue_object place) p s.sides x).device.seen (says_by (queue_object place) p s.sides x)

  step_by : (p : Party) (m : Memory) (s : RunState) (x : Marked QueueMark) → party (queue_object place) x ≡ p → TiedSides m s → Tells m x.entry → may_by (queue_object place) p s.sides x
      → SeenBy p s x × TiedSides (after_entry m x.entry) (NextBy p s x)
  step_by Device m s x is t tells may = (
    device_sees place m s.sides.device s.sides.host s.queue x.entry ok t tells x.mark may,
    tied_after place _ _ _ _ _ (device_step place m s.sides.device s.sides.host s.queue x.mark x.entry ok t tells may),
  )
  step_by Host m s x is t tells may = (
    host_sees (size (ring_of place)) s.sides.device.seen s.queue _ (polled_says place s.sides.host x.mark x.entry) (omega (arith, t.sees.least, t.fits.acked)),
    tied_after place _ _ _ _ _ (host_step place m s.sides.device s.sides.host s.queue x.mark x.entry ok t tells may),
  )
  step_by Bystander m s x is t tells may =
      let load = λ (inside : touches (ring_of place) x.entry.addr ≡ true). may inside (sym (cond-true (touches (ring_of place) x.entry.addr) (role_of x.mark) Bystander inside) ∙ is) in (
        omega (arith, t.sees.least, t.fits.acked),
        Tied_kept place m (after_entry m x.entry) s.sides.device s.sides.host s.queue (harmless_kept (touches (ring_of place)) m x.entry load) t,
      )

  sees_all : (trace : List (Marked QueueMark)) (m : Memory) (s : RunState) → TiedSides m s → IsConsistent m (map (λ (x : Marked QueueMark). x.entry) trace) → Follows (MayAny (queue_object place)) (after_any (queue_object place)) s.sides trace
      → Follows (HasSeen place) (next_state place) s trace
  sees_all [] m s t consistent keeps = tt
  sees_all (x ∷ trace) m s t consistent keeps =
      let step = step_by (party (queue_object place) x) m s x refl t consistent.0 keeps.0 in
      (step.0, sees_all trace (after_entry m x.entry) (next_state place s x) step.1 consistent.1 keeps.1)

pub run_sees_enough : (place : CqPlace) (index : ℕ) (start : Memory) (trace : List (Marked QueueMark)) → IsRun place index start trace → SeesEnough place index trace
run_sees_enough place index start trace r =
    sees_all place r.place_ok trace start (first_state index) (start_tied place index start r.start_ok) r.run.consistent
    (keeps_all (queue_object place) (first_state index).sides.device (first_state index).sides.host start trace r.run)
