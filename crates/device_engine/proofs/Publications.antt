-- An operation of a publication is one of the adapter.
use Rattle.std.proofs.Common.{◌≡◌, ℕ, ◌<◌, refl, sym, ap, ◌∙◌, subst, arith, Bool, true, false, length, length-set, eq-eqb, zero-add, Option, Some, None, slice_get, get_or, if◌then◌else◌}
use Rattle.std.proofs.lemmas.Option.{slice_get_read, slice_get_within}
use Rattle.bus_core.specs.declared.operation.BusEntry.{BusEntry}
use Rattle.bus_core.specs.Port.{Port}
use Rattle.std.specs.declared.snapshot.Snapshot.{Snapshot}
use Rattle.verbs_types.specs.declared.declaration.Lines.{Lines}
use Rattle.actor_map.specs.Sizes.{words_of}
use Rattle.cqe_format.specs.declared.completion.Cqe.{Cqe}
use Rattle.owner_ring.specs.Place as ring
use Rattle.owner_ring.specs.Turn.{CanServe}
use Rattle.cq_pair.specs.declared.place.CqPlace.{CqPlace}
use Rattle.cq_pair.specs.Place.{ring_of}
use Rattle.cq_pair.specs.Device.{QueueDevice, MayDeliver, after_deliver, seen_by, delivered}
use Rattle.cq_pair.specs.DeviceView.{DeviceView, mark_of}
use Rattle.cq_pair.specs.Queue.{QueueEvent, Published, Overrun, Lost, Took, Empty, Acked}
use Rattle.cq_pair.proofs.Seeing.{seen_after_deliver}
use Rattle.object_places.specs.Places.{completions_of, AreWithin}
use Rattle.device_engine.specs.declared.scan.Work.{Work}
use Rattle.device_engine.specs.declared.scan.Work.TheVariants as works
use Rattle.device_engine.specs.declared.outcome.NextWork.TheVariants.{Next}
use Rattle.device_engine.specs.declared.outcome.Outcome.{Outcome}
use Rattle.device_engine.specs.Event.{IsAdapterNote, publish_said}
use Rattle.device_engine.specs.Goes.{goes, told_published}
use Rattle.device_engine.specs.Publishing.{Publishes, task_left}
use Rattle.device_engine.specs.Rows.{published, publish_event, publish_mark}
use Rattle.device_engine.specs.Rule.{mark_at, MayAt, after_at, said_at, sees_at}
use Rattle.device_engine.specs.Scan.{IsQueue, IsScan, IsStanding, IsThere, IsPublishing, Idle, CanPublish, CanGo, task_of, task_before, queue_task}
use Rattle.device_engine.specs.Scan as scan
use Rattle.device_engine.specs.State.{AdapterRule, with_queue, put_number, fresh_adapter}
use Rattle.device_engine.specs.Turn.{CanScan, Operates, is_about}
use Rattle.device_engine.specs.View.{ScanView, at_of, rule_of}
use Rattle.device_engine.proofs.Kept.{publishes, queue_changed, with_queue_at}
use Rattle.device_engine.proofs.Numbers.{by_at, by_put}
use Rattle.device_engine.proofs.Visits.{Stands}

abbrev pub side_of : DeviceView → QueueDevice
side_of q = q.side

-- a port of the adapter serves the queue
pub serves_queue : {Bus : Type 0} (d : Lines) (cq : ℕ) (q : DeviceView) (port : Port Bus) → IsQueue d cq q → CanScan d port → CanServe (ring_of q.place) port
serves_queue d cq q port is can = record {
  room = can.room;
  ring = omega (arith, is.within.ring, can.words);
  ci = omega (arith, is.within.record_word, can.words);
}

-- what comes after a publication's operation is what the rule goes on to
published_row : (event : Option QueueEvent) (d : Lines) (s : AdapterRule) (cq seen : ℕ) → goes d (told_published cq seen event).comes s ≡ published d event s
published_row None d s cq seen = refl
published_row (Some (Published index completion)) d s cq seen = refl
published_row (Some (Overrun index ci)) d s cq seen = refl
published_row (Some Lost) d s cq seen = refl
published_row (Some (Took index completion)) d s cq seen = refl
published_row (Some (Empty index)) d s cq seen = refl
published_row (Some (Acked ci)) d s cq seen = refl

published_note : (event : Option QueueEvent) (cq seen number : ℕ) → IsAdapterNote (publish_said cq number event) seen (told_published cq seen event).note
published_note None cq seen number = refl
published_note (Some (Published index completion)) cq seen number = λ x. refl
published_note (Some (Overrun index ci)) cq seen number = refl
published_note (Some Lost) cq seen number = refl
published_note (Some (Took index completion)) cq seen number = refl
published_note (Some (Empty index)) cq seen number = refl
published_note (Some (Acked ci)) cq seen number = refl

-- the completion queue of a publication
module _ (v : ScanView) (cq : ℕ) (kept : Snapshot Cqe) (q : DeviceView) (found : slice_get v.queues cq ≡ Some q) (work : v.work ≡ works.Publishing cq kept) (s : IsScan v (scan.Publishes cq kept.value)) where
  abbrev c : Cqe
  c = kept.value

  abbrev d : Lines
  d = v.declared

  abbrev rule : AdapterRule
  rule = rule_of v

  pub is_queue : IsQueue d cq q
  is_queue = s.queues cq q found

  pub task_is : q.task ≡ Some c
  task_is = s.queue_tasks cq q found ∙ ap (λ (same : Bool). if same then Some c else None) (eq-eqb cq cq refl)

  side_is : q.side ≡ rule.queues cq
  side_is = sym (subst (λ (k : ℕ). rule.queues k ≡ q.side) (zero-add cq) (by_at 0 side_of (fresh_adapter d).queues v.queues cq q found))

  module _ (q' : DeviceView) (told : Outcome) (e : BusEntry) (m : Publishes cq q q' e told) (visit : v.visit < length v.pairs) where
    abbrev event : Option QueueEvent
    event = publish_event d rule cq c e

    abbrev after : ScanView
    after = with_queue_at v cq q'

    abbrev side_from : CqPlace → QueueDevice → Option Cqe → QueueDevice
    side_from pl x task = after_deliver pl x (mark_of task x.overrun) e

    abbrev event_from : CqPlace → QueueDevice → Option Cqe → Option QueueEvent
    event_from pl x task = delivered pl x (mark_of task x.overrun) e

    event_is : event_from q.place q.side q.task ≡ event
    event_is = ap (λ (t : Option Cqe). event_from q.place q.side t) task_is ∙ (ap (λ (x : QueueDevice). event_from q.place x (Some c)) side_is ∙ ap (λ (pl : CqPlace). event_from pl (rule.queues cq) (Some c)) is_queue.place)

    side_after : q'.side ≡ after_deliver (completions_of d cq) (rule.queues cq) (publish_mark rule cq c) e
    side_after = m.side ∙ (ap (λ (t : Option Cqe). side_from q.place q.side t) task_is ∙ (ap (λ (x : QueueDevice). side_from q.place x (Some c)) side_is ∙ ap (λ (pl : CqPlace). side_from pl (rule.queues cq) (Some c)) is_queue.place))

    seen_is : q'.side.seen ≡ seen_by (rule.queues cq) (publish_mark rule cq c) e
    seen_is = ap (λ (x : QueueDevice). x.seen) side_after ∙ seen_after_deliver (completions_of d cq) (rule.queues cq) (publish_mark rule cq c) e

    told_is : told ≡ told_published cq q'.side.seen event
    told_is = m.told_is ∙ ap (told_published cq q'.side.seen) event_is

    moved : rule_of after ≡ with_queue cq (after_deliver (completions_of d cq) (rule.queues cq) (publish_mark rule cq c) e) rule
    moved = λ i. record {
      visit = rule.visit;
      at_work = rule.at_work;
      taken = rule.taken;
      readers = rule.readers;
      queues = λ n. (by_put 0 side_of (fresh_adapter d).queues v.queues cq q q' found n ∙ (ap (λ (k : ℕ). put_number rule.queues k q'.side n) (zero-add cq) ∙ ap (λ (x : QueueDevice). put_number rule.queues cq x n) side_after)) i;
    }

    is_queue_after : IsQueue d cq q'
    is_queue_after = record { place = m.place ∙ is_queue.place; within = subst (AreWithin (words_of d)) (sym m.place) is_queue.within }

    scan_after : (going : Bool) → q'.task ≡ (if going then Some c else None) → IsScan after (publishes going cq c)
    scan_after true task = queue_changed v true true cq c q' s is_queue_after (task ∙ sym (ap (λ (same : Bool). if same then Some c else None) (eq-eqb cq cq refl)))
    scan_after false task = queue_changed v true false cq c q' s is_queue_after task

    inside_after : cq < length after.queues
    inside_after = omega (arith, slice_get_within v.queues cq q found, length-set v.queues cq q')

    over : q'.task ≡ None → Stands after Next
    over task = record { scan = scan_after false task; can = visit }

    stands_by : (said : Option QueueEvent) → q'.task ≡ task_left q.task said → Stands after (told_published cq q'.side.seen said).comes
    stands_by None task = record {
      scan = subst (λ (w : Work). IsScan after (task_of w v.visit)) (sym work) (scan_after true (task ∙ task_is));
      can = subst (IsThere after) (sym work) (visit, inside_after);
    }
    stands_by (Some (Published index completion)) task = over task
    stands_by (Some (Overrun index ci)) task = over task
    stands_by (Some Lost) task = over task
    stands_by (Some (Took index completion)) task = over task
    stands_by (Some (Empty index)) task = over task
    stands_by (Some (Acked ci)) task = over task

    stands : Stands after told.comes
    stands = subst (Stands after) (sym (ap (λ (t : Outcome). t.comes) told_is)) (stands_by event (m.task ∙ ap (task_left q.task) event_is))

    abbrev may_from : CqPlace → QueueDevice → Option Cqe → Type 0
    may_from pl x task = MayDeliver pl x (mark_of task x.overrun) e

    may : may_from (completions_of d cq) (rule.queues cq) (Some c)
    may =
        subst (λ (pl : CqPlace). may_from pl (rule.queues cq) (Some c)) is_queue.place
        (subst (λ (x : QueueDevice). may_from q.place x (Some c)) side_is (subst (λ (t : Option Cqe). may_from q.place q.side t) task_is m.may))

    pub publish_operates : Operates v after e told
    publish_operates = record {
      may = subst (λ (w : Work). MayAt d rule (at_of w) e) (sym work) may;
      inside = subst (λ (w : Work). is_about d (mark_at rule (at_of w)) e.addr ≡ true) (sym work) (subst (λ (pl : CqPlace). ring.touches (ring_of pl) e.addr ≡ true) is_queue.place m.inside);
      rule = ap (λ (t : Outcome). goes d t.comes (rule_of after)) told_is
          ∙ (published_row event d (rule_of after) cq q'.side.seen ∙ (ap (published d event) moved ∙ ap (λ (w : Work). after_at d rule (at_of w) e) (sym work)));
      note_is =
          subst (λ (w : Work). IsAdapterNote (said_at d rule (at_of w) e) (sees_at rule (at_of w) e) told.note) (sym work)
          (subst (λ (seen : ℕ). IsAdapterNote (publish_said cq (rule.taken rule.visit) event) seen told.note) seen_is
          (subst (λ (t : Outcome). IsAdapterNote (publish_said cq (rule.taken rule.visit) event) q'.side.seen t.note) (sym told_is) (published_note event cq q'.side.seen (rule.taken rule.visit))));
      scan = stands.scan;
      can_go = stands.can;
      declared = refl;
    }

-- what the adapter is at, where it publishes in the queue of this number
pub record PublishesAt (v : ScanView) (cq : ℕ) : Type 0 where
  pub kept : Snapshot Cqe
  pub work : v.work ≡ works.Publishing cq kept
  pub visit : v.visit < length v.pairs
  pub lives : cq < length v.queues
  pub scan_is : IsScan v (scan.Publishes cq kept.value)

by_work : (v : ScanView) (cq : ℕ) (w : Work) → v.work ≡ w → IsPublishing w cq → IsScan v (task_of w v.visit) → IsThere v w → PublishesAt v cq
by_work v cq works.Looking is h s there = absurd h
by_work v cq works.Recording is h s there = absurd h
by_work v cq works.Reading is h s there = absurd h
by_work v cq works.Ending is h s there = absurd h
by_work v cq (works.Publishing other kept) is h s there = record {
  kept = kept;
  work = is ∙ ap (λ (n : ℕ). works.Publishing n kept) h;
  visit = there.0;
  lives = subst (λ (n : ℕ). n < length v.queues) h there.1;
  scan_is = subst (λ (n : ℕ). IsScan v (scan.Publishes n kept.value)) h s;
}

pub publishes_at : (v : ScanView) (cq : ℕ) → IsStanding v → IsPublishing v.work cq → PublishesAt v cq
publishes_at v cq standing h = by_work v cq v.work refl h standing.scan standing.there

pub found_queue : (v : ScanView) (cq : ℕ) (q : DeviceView) → cq < length v.queues → q ≡ get_or v.queues cq q → slice_get v.queues cq ≡ Some q
found_queue v cq q inside read = slice_get_read v.queues (length v.queues) cq q refl inside read
