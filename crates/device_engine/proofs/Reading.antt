-- A load of a word of the visited pair's next entry is an operation of the adapter.
use Rattle.std.proofs.Common.{◌≡◌, ℕ, ◌+◌, ◌^◌, ◌<◌, refl, sym, ap, ◌∙◌, subst, arith, cond, Bool, true, false, List, [], ◌∷◌, ◌++◌, length, length-set, Option, Some, None, slice_get}
use Rattle.std.proofs.lemmas.Bool.{cond-false}
use Rattle.std.proofs.lemmas.Option.{slice_get_within}
use Rattle.bus_core.specs.declared.operation.BusEntry.{BusEntry}
use Rattle.bus_core.specs.declared.turn.Note.{Note}
use Rattle.bus_core.specs.Operation.{loaded}
use Rattle.verbs_types.specs.declared.declaration.Lines.{Lines}
use Rattle.verbs_types.specs.declared.declaration.TheConstants.{FIRST_QP}
use Rattle.cqe_format.specs.Completion.{IsCompletion}
use Rattle.cq_pair.specs.DeviceView as queue
use Rattle.cq_pair.specs.Device.{QueueDevice}
use Rattle.owner_ring.specs.Producer.{next_index}
use Rattle.counted_ring.specs.declared.place.WqPlace.{WqPlace}
use Rattle.counted_ring.specs.Device.{WqReader, MayRead, is_whole, after_read, read_says}
use Rattle.counted_ring.specs.DeviceView.{DeviceTask}
use Rattle.counted_ring.specs.Place.{touches}
use Rattle.counted_ring.specs.Queue.{WqEvent, Took}
use Rattle.object_places.specs.Places.{send_of}
use Rattle.device_engine.specs.declared.pair.Pair.{Pair}
use Rattle.device_engine.specs.declared.scan.Work.{Work}
use Rattle.device_engine.specs.declared.scan.Work.TheVariants as works
use Rattle.device_engine.specs.declared.outcome.NextWork.TheVariants.{Publish, Next}
use Rattle.device_engine.specs.declared.outcome.Outcome.{Outcome}
use Rattle.device_engine.specs.Entry.{wants, nop_cqe}
use Rattle.device_engine.specs.Event.{IsAdapterNote, fetch_said}
use Rattle.device_engine.specs.Goes.{goes}
use Rattle.device_engine.specs.Pair.{AtRead, CanRead, LeavesTask, Reads, with_side, with_request, pair_read}
use Rattle.device_engine.specs.Rows.{fetched, publish_or_next, after_reading}
use Rattle.device_engine.specs.Rule.{mark_at, MayAt, after_at, said_at, sees_at}
use Rattle.device_engine.specs.Scan.{IsPair, IsReading, IsScan, IsThere, Idle, ReadsPair, CanPublish, task_of}
use Rattle.device_engine.specs.State.{AdapterRule, Publishing, reader, working, next_visit, with_reader, with_taken, send_cq, fresh_adapter}
use Rattle.device_engine.specs.NextWork.{comes_asked, fetch_note, told_read}
use Rattle.device_engine.specs.Turn.{Operates, is_about}
use Rattle.device_engine.specs.Counts.{CountsBelow}
use Rattle.device_engine.specs.View.{ScanView, at_of, rule_of}
use Rattle.device_engine.proofs.Kept.{pair_changed, with_pair}
use Rattle.device_engine.proofs.Numbers.{by_at}
use Rattle.device_engine.proofs.Visits.{Stands, reader_is, taken_is, side_moved, request_taken, is_low, reading_here, reading_was, goes_cond}

abbrev queue_side : queue.DeviceView → QueueDevice
queue_side q = q.side

-- the pair that is read
pub can_read : (v : ScanView) (p : Pair) → slice_get v.pairs v.visit ≡ Some p → IsScan v (ReadsPair v.visit) → CountsBelow (2 ^ 61) (rule_of v) → CanRead p
can_read v p found s low =
    let reading = reading_was v.visit p (s.pair_tasks v.visit p found) in
    record {
      matched = (s.pairs v.visit p found).matched;
      low = is_low v p found (FIRST_QP + v.visit) (s.pairs v.visit p found) low;
      task = reading.task;
      ready = reading.ready;
    }

-- the pair with a new side
sided_pair : (d : Lines) (qp : ℕ) (p : Pair) (r : WqReader) (task : Option DeviceTask) → IsPair d qp p → p.next ≡ r.next → IsPair d qp (with_side p r task)
sided_pair d qp p r task is next = record {
  matched = record { send = is.matched.send; stride = is.matched.stride; place = is.matched.place; next = next; number = is.matched.number };
  number = is.number;
  place = is.place;
  within = is.within;
  may_send = is.may_send;
  send_cq = is.send_cq;
  send_cq_lives = is.send_cq_lives;
}

-- and with one request more
taken_pair : (d : Lines) (qp : ℕ) (p : Pair) (r : WqReader) (task : Option DeviceTask) → IsPair d qp p → IsPair d qp (with_request p r task)
taken_pair d qp p r task is = record {
  matched = record { send = is.matched.send; stride = is.matched.stride; place = is.matched.place; next = refl; number = is.matched.number };
  number = is.number;
  place = is.place;
  within = is.within;
  may_send = is.may_send;
  send_cq = is.send_cq;
  send_cq_lives = is.send_cq_lives;
}

-- the completion of a NOP is one
nop_is_completion : (qp index : ℕ) → qp < 2 ^ 24 → IsCompletion (nop_cqe qp index)
nop_is_completion qp index low = record {
  opcode = refl;
  format = refl;
  sop = λ h. refl;
  sop_known = refl;
  qpn = λ h. absurd (cc);
  qpn_bits = low;
  counter = λ h. absurd (cc);
  srqn = λ h. refl;
  imm = λ h. refl;
  len = λ h. refl;
  syndrome = λ h. refl;
  syndrome_known = refl;
  solicited = λ h. refl;
}

module _ (v : ScanView) (p : Pair) (e : BusEntry) (found : slice_get v.pairs v.visit ≡ Some p) (s : IsScan v (ReadsPair v.visit)) (low : CountsBelow (2 ^ 61) (rule_of v)) where
  abbrev d : Lines
  d = v.declared

  abbrev rule : AdapterRule
  rule = rule_of v

  abbrev r : WqReader
  r = p.requests.side

  abbrev place : WqPlace
  place = p.requests.place

  abbrev r' : WqReader
  r' = after_read place r e

  pair : IsPair d (FIRST_QP + v.visit) p
  pair = s.pairs v.visit p found

  abbrev words : List ℕ
  words = r.words ++ loaded e ∷ []

  -- what the rule goes on to, from the side and the place
  abbrev reading_from : WqPlace → WqReader → AdapterRule
  reading_from pl q = fetched d q.next (read_says pl q e) (with_reader (after_read pl q e) rule)

  from_rule : reading_from place r ≡ after_reading d rule e
  from_rule = ap (reading_from place) (sym (reader_is v p found)) ∙ ap (λ (pl : WqPlace). reading_from pl (reader rule)) pair.place

  inside_after : (q : Pair) → v.visit < length (with_pair v q).pairs
  inside_after q = omega (arith, slice_get_within v.pairs v.visit p found, length-set v.pairs v.visit q)

  -- what an operation of this event comes to
  record Comes_to (event : Option WqEvent) (q : Pair) : Type 0 where
    rule_is : goes d (told_read p event).comes (rule_of (with_pair v q)) ≡ fetched d r.next event (with_reader r' rule)
    note_is : IsAdapterNote (fetch_said rule.visit (rule.taken rule.visit + 1) event) (rule.taken rule.visit + 1) (told_read p event).note
    stands : Stands (with_pair v q) (told_read p event).comes

  -- the entry goes on
  module _ (task : Option DeviceTask) (part : is_whole place r.ready words ≡ false) (work : v.work ≡ works.Reading) (left : AtRead task) where
    abbrev going : Pair
    going = with_side p r' task

    side_is : r' ≡ record { next = r.next; ready = r.ready; register = r.register; words = words }
    side_is = cond-false (is_whole place r.ready words) _ _ part

    reading : IsReading going
    reading = record { task = left; ready = subst (λ (n : ℕ). 0 < n) (sym (ap (λ (q : WqReader). q.ready) side_is)) (reading_was v.visit p (s.pair_tasks v.visit p found)).ready }

    scan_on : IsScan (with_pair v going) (ReadsPair v.visit)
    scan_on = pair_changed v true true going s (sided_pair d (FIRST_QP + v.visit) p r' task pair (pair.matched.next ∙ sym (ap (λ (q : WqReader). q.next) side_is))) (reading_here v.visit going reading)

    goes_on : Comes_to None going
    goes_on = record {
      rule_is = side_moved v p found going r' refl refl;
      note_is = refl;
      stands = record {
        scan = subst (λ (w : Work). IsScan (with_pair v going) (task_of w v.visit)) (sym work) scan_on;
        can = subst (IsThere (with_pair v going)) (sym work) (inside_after going);
      };
    }

  -- the request is taken
  module _ (task : Option DeviceTask) (none : task ≡ None) where
    abbrev taken : Pair
    taken = with_request p r' task

    scan_taken : IsScan (with_pair v taken) Idle
    scan_taken = pair_changed v true false taken s (taken_pair d (FIRST_QP + v.visit) p r' task pair) none

    can_publish : CanPublish (with_pair v taken) p.send_cq (nop_cqe p.number p.next)
    can_publish = record {
      lives = omega (arith, pair.send_cq_lives, s.all_queues);
      completion_is = nop_is_completion p.number p.next pair.matched.number;
      low = λ q at_cq. omega (arith, low.completions (0 + p.send_cq), ap (λ (x : QueueDevice). next_index x.producer) (by_at 0 queue_side (fresh_adapter d).queues v.queues p.send_cq q at_cq));
    }

    stands_taken : (wanted : Bool) → Stands (with_pair v taken) (cond wanted (Publish p.send_cq (nop_cqe p.number p.next)) Next)
    stands_taken true = record { scan = scan_taken; can = (inside_after taken, can_publish) }
    stands_taken false = record { scan = scan_taken; can = inside_after taken }

    abbrev publishing : ℕ → ℕ → ℕ → AdapterRule
    publishing cq qp index =
        let next = with_taken (with_reader r' rule) in
        cond (wants words) (working (Publishing cq (nop_cqe qp index)) next) (next_visit d next)

    rule_taken : goes d (comes_asked p words) (rule_of (with_pair v taken)) ≡ publish_or_next d r.next words (with_taken (with_reader r' rule))
    rule_taken =
        goes_cond d (wants words) (Publish p.send_cq (nop_cqe p.number p.next)) Next (rule_of (with_pair v taken))
        ∙ (ap (λ (x : AdapterRule). cond (wants words) (working (Publishing p.send_cq (nop_cqe p.number p.next)) x) (next_visit d x)) (request_taken v p found taken r' refl refl)
        ∙ (ap (λ (cq : ℕ). publishing cq p.number p.next) (pair.send_cq)
        ∙ (ap (λ (qp : ℕ). publishing (send_cq d (FIRST_QP + v.visit)) qp p.next) pair.number
        ∙ ap (publishing (send_cq d (FIRST_QP + v.visit)) (FIRST_QP + v.visit)) pair.matched.next)))

    takes : Comes_to (Some (Took words)) taken
    takes = record {
      rule_is = rule_taken;
      note_is = ap (λ (qp : ℕ). Some (fetch_note qp (p.taken + 1))) pair.number ∙ ap (λ (n : ℕ). Some (fetch_note (FIRST_QP + v.visit) (n + 1))) (sym (taken_is v p found));
      stands = stands_taken (wants words);
    }

  module _ (p' : Pair) (told : Outcome) (m : Reads p p' e told) (work : v.work ≡ works.Reading) where
    abbrev event_by : Bool → Option WqEvent
    event_by whole = cond whole (Some (Took words)) None

    by_whole : (whole : Bool) → is_whole place r.ready words ≡ whole → LeavesTask (event_by whole) p'.requests.task → p' ≡ pair_read p r' p'.requests.task (event_by whole) → Comes_to (event_by whole) p'
    by_whole true is left same = subst (Comes_to (Some (Took words))) (sym same) (takes p'.requests.task left)
    by_whole false is left same = subst (Comes_to None) (sym same) (goes_on p'.requests.task is work left)

    comes_to : Comes_to (read_says place r e) p'
    comes_to = by_whole (is_whole place r.ready words) refl m.task m.pair

    stands_read : Stands (with_pair v p') told.comes
    stands_read = subst (Stands (with_pair v p')) (sym (ap (λ (t : Outcome). t.comes) m.told_is)) comes_to.stands

    abbrev NoteFrom : WqPlace → WqReader → Option Note → Type 0
    NoteFrom pl q note = IsAdapterNote (fetch_said rule.visit (rule.taken rule.visit + 1) (read_says pl q e)) (rule.taken rule.visit + 1) note

    pub read_operates : Operates v (with_pair v p') e told
    read_operates = record {
      may = subst (λ (w : Work). MayAt d rule (at_of w) e) (sym work) (subst (λ (q : WqReader). MayRead (send_of d rule.visit) q e) (sym (reader_is v p found)) (subst (λ (pl : WqPlace). MayRead pl r e) pair.place m.may));
      inside = subst (λ (w : Work). is_about d (mark_at rule (at_of w)) e.addr ≡ true) (sym work) (subst (λ (pl : WqPlace). touches pl e.addr ≡ true) pair.place m.inside);
      rule = ap (λ (t : Outcome). goes d t.comes (rule_of (with_pair v p'))) m.told_is ∙ (comes_to.rule_is ∙ (from_rule ∙ ap (λ (w : Work). after_at d rule (at_of w) e) (sym work)));
      note_is =
          subst (λ (w : Work). IsAdapterNote (said_at d rule (at_of w) e) (sees_at rule (at_of w) e) told.note) (sym work)
          (subst (λ (pl : WqPlace). NoteFrom pl (reader rule) told.note) pair.place
          (subst (λ (q : WqReader). NoteFrom place q told.note) (sym (reader_is v p found)) (subst (λ (t : Outcome). NoteFrom place r t.note) (sym m.told_is) comes_to.note_is)));
      scan = stands_read.scan;
      can_go = stands_read.can;
      declared = refl;
    }
