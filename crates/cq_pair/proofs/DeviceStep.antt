-- One operation of the device's side keeps what ties words, sides and list, and what it says is a step of the list.
use Rattle.std.proofs.Common.{◌≡◌, ℕ, refl, ◌∙◌, arith, false, Option, Some, None}
use Rattle.bus_core.specs.declared.operation.BusEntry.{BusEntry}
use Rattle.bus_core.specs.Trace.{Memory, after_entry, Tells}
use Rattle.bus_core.proofs.Words.{load_keeps}
use Rattle.cqe_format.specs.declared.completion.Cqe.{Cqe}
use Rattle.owner_ring.specs.Place.{IsPlace}
use Rattle.owner_ring.specs.Ring.{Ring, RingEvent}
use Rattle.owner_ring.specs.Ring as ring
use Rattle.owner_ring.specs.Producer.{Producer}
use Rattle.owner_ring.specs.Consumer.{Consumer}
use Rattle.owner_ring.proofs.Tied as ring_tied
use Rattle.owner_ring.proofs.ProducerStep.{producer_step}
use Rattle.owner_ring.proofs.Seeing.{Sees, sees_on, sees_more}
use Rattle.owner_ring.proofs.Says.{IsProducing, produced_says}
use Rattle.cq_pair.specs.declared.place.CqPlace.{CqPlace}
use Rattle.cq_pair.specs.Place.{ring_of}
use Rattle.cq_pair.specs.Mark.{QueueMark, Publish, Lose, Look, Read, Take, Acknowledge, Foreign}
use Rattle.cq_pair.specs.Queue.{PlainQueue}
use Rattle.cq_pair.specs.Device.{QueueDevice, Spells, is_full, published_as, MayDeliver, after_deliver, delivered}
use Rattle.cq_pair.proofs.Spelled.{spelled_push}
use Rattle.cq_pair.proofs.Tied.{Tied, Tied_kept, Fits, Goes, same_produced}

module _ (place : CqPlace) (m : Memory) (completion : Cqe) (d : QueueDevice) (after : Producer) (seen : ℕ) (h : Consumer) (entries : Ring) (q : PlainQueue) (f : Fits entries d h q) (runs : d.overrun ≡ false) (sees : Sees (ring_of place) after entries seen) where
  publishes : (said : Option RingEvent) → IsProducing said → Spells completion said → ring_tied.Goes (ring_of place) m after h entries said → Goes place m (record { producer = after; overrun = is_full said; seen = seen }) h q (published_as completion said)
  publishes None says spells g = record {
    entries = entries;
    ring = g;
    sees = sees;
    fits = record { acked = f.acked; spelled = f.spelled; overrun = f.overrun ∙ runs; polled = f.polled; within = f.within };
  }
  publishes (Some (ring.Published i ws)) says spells g =
      let count = same_produced entries d h q f in (
        record { index_is = omega (arith, g.0, count); runs = f.overrun ∙ runs; room = omega (arith, g.0, count, f.acked) },
        record {
          entries = ring.after_event entries (ring.Published i ws);
          ring = g.1;
          sees = sees_more (ring_of place) after entries (ring.after_event entries (ring.Published i ws)) seen (omega arith) sees;
          fits = record { acked = f.acked; spelled = spelled_push q.completions entries.entries completion ws f.spelled spells; overrun = f.overrun ∙ runs; polled = f.polled; within = f.within };
        },
      )
  publishes (Some (ring.Full i ci)) says spells g =
      let count = same_produced entries d h q f in (
        record { index_is = omega (arith, g.0, count); runs = f.overrun ∙ runs; ci_is = omega (arith, g.0, f.acked); full = omega (arith, g.0, count, f.acked) },
        record {
          entries = entries;
          ring = g.1;
          sees = sees;
          fits = record { acked = f.acked; spelled = f.spelled; overrun = refl; polled = f.polled; within = f.within };
        },
      )
  publishes (Some (ring.Took i ws)) says spells g = absurd says
  publishes (Some (ring.Empty i)) says spells g = absurd says
  publishes (Some (ring.Acked ci)) says spells g = absurd says

pub device_step : (place : CqPlace) (m : Memory) (d : QueueDevice) (h : Consumer) (q : PlainQueue) (mark : QueueMark) (e : BusEntry) → IsPlace (ring_of place) → Tied place m d h q → Tells m e → MayDeliver place d mark e →
    Goes place (after_entry m e) (after_deliver place d mark e) h q (delivered place d mark e)
device_step place m d h q (Publish completion) e ok t tells may =
    publishes place (after_entry m e) completion d _ _ h t.entries q t.fits may.runs (sees_on (ring_of place) m d.producer h t.entries d.seen e ok t.ring tells may.ring t.sees) _ (produced_says (ring_of place) d.producer e) may.spells
    (producer_step (ring_of place) m d.producer h t.entries e ok t.ring tells may.ring)
device_step place m d h q Lose e ok t tells may = (t.fits.overrun ∙ may.stopped, Tied_kept place m (after_entry m e) d h q (λ a inside. load_keeps m e a may.load.op) t)
device_step place m d h q (Look i) e ok t tells may = absurd may
device_step place m d h q Read e ok t tells may = absurd may
device_step place m d h q (Take completion) e ok t tells may = absurd may
device_step place m d h q (Acknowledge i) e ok t tells may = absurd may
device_step place m d h q Foreign e ok t tells may = absurd may
