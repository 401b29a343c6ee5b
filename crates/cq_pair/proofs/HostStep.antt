-- One operation of the host's side keeps what ties words, sides and list, and what it says is a step of the list.
use Rattle.std.proofs.Common.{◌≡◌, ℕ, ◌+◌, ◌-◌, ◌≤◌, refl, ap, sym, ◌∙◌, subst, arith, Bool, true, false, cond, eqb, List, [], length, Some, None}
use Rattle.std.specs.Prelude.{drop, slice_get}
use Rattle.std.proofs.Math.ListN.{drop_of_length-le}
use Rattle.bus_core.specs.declared.operation.BusEntry.{BusEntry}
use Rattle.bus_core.specs.Operation.{loaded}
use Rattle.bus_core.specs.Trace.{Memory, after_entry, Tells}
use Rattle.cqe_format.specs.declared.completion.Cqe.{Cqe}
use Rattle.cqe_format.specs.Bytes.{entry_bytes}
use Rattle.cqe_format.proofs.Values.{one_completion}
use Rattle.owner_ring.specs.Place.{is_owned, IsPlace}
use Rattle.owner_ring.specs.Ring.{Ring, RingEvent}
use Rattle.owner_ring.specs.Ring as ring
use Rattle.owner_ring.specs.Mark as ring_marks
use Rattle.owner_ring.specs.Consumer.{Consumer, Waiting, Reading, acked_index, next_index, IsReachable}
use Rattle.owner_ring.proofs.Tied as ring_tied
use Rattle.owner_ring.proofs.ConsumerStep.{consumer_step}
use Rattle.owner_ring.proofs.Seeing.{Sees, sees_more}
use Rattle.cq_pair.specs.declared.place.CqPlace.{CqPlace}
use Rattle.cq_pair.specs.Place.{ring_of}
use Rattle.cq_pair.specs.Mark.{QueueMark, Publish, Lose, Look, Read, Take, Acknowledge, Foreign}
use Rattle.cq_pair.specs.Queue.{PlainQueue, Took}
use Rattle.cq_pair.specs.Queue as queue
use Rattle.cq_pair.specs.Device.{QueueDevice}
use Rattle.cq_pair.specs.Host.{TakesAs, found, MayPoll, after_poll, polled}
use Rattle.cq_pair.proofs.Spelled.{AllSpelled, spelled_drop, spelled_at}
use Rattle.cq_pair.proofs.Tied.{Tied, Fits, Goes, same_produced}

module _ (place : CqPlace) (m : Memory) (d : QueueDevice) (q : PlainQueue) (entries : Ring) (sees : Sees (ring_of place) d.producer entries d.seen) where
  looks : (c : Consumer) (i word : ℕ) (owned : Bool) → Fits entries d c q → IsReachable c i → next_index c ≤ ring.published entries →
      ring_tied.Goes (ring_of place) m d.producer (cond owned (Reading (acked_index c) (next_index c) i word []) (Waiting (acked_index c) (next_index c))) entries (cond owned None (Some (ring.Empty i))) →
      Goes place m d (cond owned (Reading (acked_index c) (next_index c) i word []) (Waiting (acked_index c) (next_index c))) q (found (cond owned None (Some (ring.Empty i))))
  looks c i word true f r low g = record {
    entries = entries;
    ring = g;
    sees = sees;
    fits = record { acked = f.acked; spelled = f.spelled; overrun = f.overrun; polled = f.polled; within = r.next };
  }
  looks c i word false f r low g =
      let count = same_produced entries d c q f in
      let last : q.polled ≡ queue.produced q = omega (arith, f.polled, r.next, low, g.0, count) in (
        record { index_is = omega (arith, g.0, last, count); none = drop_of_length-le q.completions (omega (arith, last)) },
        record {
          entries = entries;
          ring = g.1;
          sees = sees;
          fits = record { acked = f.acked; spelled = f.spelled; overrun = f.overrun; polled = f.polled; within = tt };
        },
      )

  reads_on : (a n i l : ℕ) (ws xs vs : List ℕ) (full : Bool) → Fits entries d (Reading a n i l ws) q → cond full (Some (ring.Took i vs)) None ≡ None →
      ring_tied.Goes (ring_of place) m d.producer (cond full (Waiting a (i + 1)) (Reading a n i l xs)) entries (cond full (Some (ring.Took i vs)) None) →
      Tied place m d (cond full (Waiting a (i + 1)) (Reading a n i l xs)) q
  reads_on a n i l ws xs vs true f none g = absurd cc
  reads_on a n i l ws xs vs false f none g = record { entries = entries; ring = g; sees = sees; fits = record { acked = f.acked; spelled = f.spelled; overrun = f.overrun; polled = f.polled; within = f.within } }

  takes : (a n i l : ℕ) (ws xs vs : List ℕ) (completion : Cqe) (full : Bool) → Fits entries d (Reading a n i l ws) q → TakesAs completion (cond full (Some (ring.Took i vs)) None) →
      ring_tied.Goes (ring_of place) m d.producer (cond full (Waiting a (i + 1)) (Reading a n i l xs)) entries (cond full (Some (ring.Took i vs)) None) →
      queue.MayTake q i completion × Tied place m d (cond full (Waiting a (i + 1)) (Reading a n i l xs)) (queue.after_event q (Took i completion))
  takes a n i l ws xs vs completion false f spells g = absurd spells
  takes a n i l ws xs vs completion true f spells g =
      let there = spelled_at q.completions entries.entries (i - entries.acked) vs f.spelled g.0.found in
      let same : there.completion ≡ completion = one_completion there.completion completion (entry_bytes vs) there.spelled (spells (there.completion, there.spelled)) in (
        record {
          acked = omega (arith, f.acked, g.0.acked);
          polled = omega (arith, f.polled, f.within);
          found = ap (λ k. slice_get q.completions (i - k)) f.acked ∙ (there.found ∙ ap (λ x. Some x) same);
        },
        record { entries = entries; ring = g.1; sees = sees; fits = record { acked = f.acked; spelled = f.spelled; overrun = f.overrun; polled = refl; within = tt } },
      )

  acknowledges : (c : Consumer) (i : ℕ) → Fits entries d c q → IsReachable c i → ring_tied.Goes (ring_of place) m d.producer (Waiting i (next_index c)) entries (Some (ring.Acked i)) →
      queue.MayAcknowledge q i × Tied place m d (Waiting i (next_index c)) (queue.after_event q (queue.Acked i))
  acknowledges c i f r g = (
    record { acked = omega (arith, f.acked, g.0); polled = omega (arith, f.polled, r.next) },
    record {
      entries = ring.after_event entries (ring.Acked i);
      ring = g.1;
      sees = sees_more (ring_of place) d.producer entries (ring.after_event entries (ring.Acked i)) d.seen g.0.0 sees;
      fits = record {
        acked = refl;
        spelled = subst (λ k. AllSpelled (drop (i - k) q.completions) (drop (i - entries.acked) entries.entries)) (sym f.acked) (spelled_drop (i - entries.acked) q.completions entries.entries f.spelled);
        overrun = f.overrun;
        polled = f.polled;
        within = tt;
      };
    },
  )

pub host_step : (place : CqPlace) (m : Memory) (d : QueueDevice) (c : Consumer) (q : PlainQueue) (mark : QueueMark) (e : BusEntry) → IsPlace (ring_of place) → Tied place m d c q → Tells m e → MayPoll place c mark e →
    Goes place (after_entry m e) d (after_poll place c mark e) q (polled place c mark e)
host_step place m d c q (Publish completion) e ok t tells may = absurd may.holds
host_step place m d c q Lose e ok t tells may = absurd may.holds
host_step place m d c q (Look i) e ok t tells may =
    looks place (after_entry m e) d q t.entries t.sees c i (loaded e) (is_owned (ring_of place) i (loaded e)) t.fits may.ring.reachable (ring_tied.known t.entries c t.ring.consumer).next_in
    (consumer_step (ring_of place) m d.producer c t.entries (ring_marks.Look i) e ok t.ring tells may.ring)
host_step place m d (Waiting a n) q Read e ok t tells may = absurd may.ring
host_step place m d (Reading a n i l ws) q Read e ok t tells may =
    reads_on place (after_entry m e) d q t.entries t.sees a n i l ws _ _ (eqb (length ws) 6) t.fits may.holds (consumer_step (ring_of place) m d.producer (Reading a n i l ws) t.entries ring_marks.Read e ok t.ring tells may.ring)
host_step place m d (Waiting a n) q (Take completion) e ok t tells may = absurd may.ring
host_step place m d (Reading a n i l ws) q (Take completion) e ok t tells may =
    takes place (after_entry m e) d q t.entries t.sees a n i l ws _ _ completion (eqb (length ws) 6) t.fits may.holds (consumer_step (ring_of place) m d.producer (Reading a n i l ws) t.entries ring_marks.Read e ok t.ring tells may.ring)
host_step place m d c q (Acknowledge i) e ok t tells may =
    acknowledges place (after_entry m e) d q t.entries t.sees c i t.fits may.ring.reachable (consumer_step (ring_of place) m d.producer c t.entries (ring_marks.Acknowledge i) e ok t.ring tells may.ring)
host_step place m d c q Foreign e ok t tells may = absurd may.holds
