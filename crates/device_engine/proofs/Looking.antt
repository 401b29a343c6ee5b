-- A load of the visited pair's register, or of its record, is an operation of the adapter.
use Rattle.std.proofs.Common.{◌^◌, ◌≡◌, ℕ, ◌+◌, ◌<◌, ◌==◌, ◌&&◌, refl, sym, ap, ◌∙◌, subst, arith, cond, Bool, true, false, nat_lt, ltb-true, length, length-set, Some, None, slice_get}
use Rattle.std.proofs.lemmas.Bool.{and_parts}
use Rattle.std.proofs.lemmas.Option.{slice_get_within}
use Rattle.bus_core.specs.declared.operation.BusEntry.{BusEntry}
use Rattle.bus_core.specs.Operation.{loaded}
use Rattle.verbs_types.specs.declared.declaration.Lines.{Lines}
use Rattle.verbs_types.specs.declared.declaration.TheConstants.{FIRST_QP}
use Rattle.counted_ring.specs.declared.place.WqPlace.{WqPlace}
use Rattle.counted_ring.specs.Device.{WqReader, MayLook, MayRecord, after_look, after_record}
use Rattle.counted_ring.specs.Place.{touches}
use Rattle.object_places.specs.Places.{send_of}
use Rattle.device_engine.specs.declared.pair.Pair.{Pair}
use Rattle.device_engine.specs.declared.scan.Work.{Work}
use Rattle.device_engine.specs.declared.scan.Work.TheVariants as works
use Rattle.device_engine.specs.declared.outcome.NextWork.{NextWork}
use Rattle.device_engine.specs.declared.outcome.NextWork.TheVariants.{Record}
use Rattle.device_engine.specs.Goes.{goes}
use Rattle.device_engine.specs.Pair.{CanLook, Looks, Records, with_side}
use Rattle.device_engine.specs.Rows.{read_or_next, after_looking, after_recording}
use Rattle.device_engine.specs.Scan.{IsPair, IsScan, Idle}
use Rattle.device_engine.specs.State.{AdapterRule, Recording, working, with_reader}
use Rattle.device_engine.specs.NextWork.{comes_ready, comes_looked, comes_recorded}
use Rattle.device_engine.specs.Event.{IsAdapterNote}
use Rattle.device_engine.specs.Rule.{mark_at, MayAt, after_at, said_at, sees_at}
use Rattle.device_engine.specs.Turn.{Operates, is_about}
use Rattle.device_engine.specs.Counts.{CountsBelow}
use Rattle.device_engine.specs.View.{ScanView, at_of, rule_of}
use Rattle.device_engine.proofs.Kept.{reads, pair_changed, with_pair}
use Rattle.device_engine.proofs.Visits.{Stands, reader_is, side_moved, is_low, task_here, goes_cond, ready_row, stands_ready}

-- the pair that is looked at
pub can_look : (v : ScanView) (p : Pair) → slice_get v.pairs v.visit ≡ Some p → IsScan v Idle → CountsBelow (2 ^ 61) (rule_of v) → CanLook p
can_look v p found s low = record {
  matched = (s.pairs v.visit p found).matched;
  low = is_low v p found (FIRST_QP + v.visit) (s.pairs v.visit p found) low;
  task = s.pair_tasks v.visit p found;
}

-- a pair whose side has gone on, and which has no task
pub idle_pair : (d : Lines) (qp : ℕ) (p : Pair) (r : WqReader) → IsPair d qp p → p.requests.side.next ≡ r.next → IsPair d qp (with_side p r None)
idle_pair d qp p r is next = record {
  matched = record { send = is.matched.send; stride = is.matched.stride; place = is.matched.place; next = is.matched.next ∙ next; number = is.matched.number };
  number = is.number;
  place = is.place;
  within = is.within;
  may_send = is.may_send;
  send_cq = is.send_cq;
  send_cq_lives = is.send_cq_lives;
}

-- a positive count is ready
ready_some : (may : Bool) (ready : ℕ) → (may && nat_lt 0 ready) ≡ true → 0 < ready
ready_some may ready h = ltb-true 0 ready (and_parts may (nat_lt 0 ready) h).1

module _ (v : ScanView) (p : Pair) (e : BusEntry) (found : slice_get v.pairs v.visit ≡ Some p) (s : IsScan v Idle) where
  abbrev d : Lines
  d = v.declared

  abbrev rule : AdapterRule
  rule = rule_of v

  abbrev r : WqReader
  r = p.requests.side

  pair : IsPair d (FIRST_QP + v.visit) p
  pair = s.pairs v.visit p found

  abbrev after : WqReader → ScanView
  after r' = with_pair v (with_side p r' None)

  scan_after : (r' : WqReader) (b : Bool) → r.next ≡ r'.next → (b ≡ true → 0 < r'.ready) → IsScan (after r') (reads b v.visit)
  scan_after r' b next ready = pair_changed v false b (with_side p r' None) s (idle_pair d (FIRST_QP + v.visit) p r' pair next) (task_here b v.visit (with_side p r' None) refl ready)

  inside_after : (r' : WqReader) → v.visit < length (after r').pairs
  inside_after r' = omega (arith, slice_get_within v.pairs v.visit p found, length-set v.pairs v.visit (with_side p r' None))

  -- the register
  stands_looked : (same : Bool) → Stands (after (after_look r e)) (cond same (comes_ready (p.may_send && nat_lt 0 r.ready)) Record)
  stands_looked true = stands_ready (after (after_look r e)) (p.may_send && nat_lt 0 r.ready) (scan_after (after_look r e) (p.may_send && nat_lt 0 r.ready) refl (ready_some p.may_send r.ready)) (inside_after (after_look r e))
  stands_looked false = record { scan = scan_after (after_look r e) false refl (λ h. absurd (cc)); can = inside_after (after_look r e) }

  abbrev looking_from : WqReader → AdapterRule
  looking_from q = cond (loaded e == q.register) (read_or_next d q (with_reader (after_look q e) rule)) (working Recording (with_reader (after_look q e) rule))

  rule_looked : goes d (comes_looked p.may_send r e) (rule_of (after (after_look r e))) ≡ after_looking d rule e
  rule_looked =
      let next = rule_of (after (after_look r e)) in
      goes_cond d (loaded e == r.register) (comes_ready (p.may_send && nat_lt 0 r.ready)) Record next
      ∙ (ap (λ (x : AdapterRule). cond (loaded e == r.register) x (working Recording next)) (ready_row d p.may_send r next pair.may_send)
      ∙ (ap (λ (x : AdapterRule). cond (loaded e == r.register) (read_or_next d r x) (working Recording x)) (side_moved v p found (with_side p (after_look r e) None) (after_look r e) refl refl)
      ∙ ap looking_from (sym (reader_is v p found))))

  module _ (p' : Pair) (comes : NextWork) (l : Looks p p' e comes) (work : v.work ≡ works.Looking) where
    stands_look : Stands (with_pair v p') comes
    stands_look = subst (λ (q : Pair). Stands (with_pair v q) comes) (sym l.pair) (subst (Stands (after (after_look r e))) (sym l.comes_is) (stands_looked (loaded e == r.register)))

    pub look_operates : Operates v (with_pair v p') e (record { comes = comes; note = None })
    look_operates = record {
      may = subst (λ (w : Work). MayAt d rule (at_of w) e) (sym work) (subst (λ (q : WqReader). MayLook (send_of d rule.visit) q e) (sym (reader_is v p found)) (subst (λ (pl : WqPlace). MayLook pl r e) pair.place l.may));
      inside = subst (λ (w : Work). is_about d (mark_at rule (at_of w)) e.addr ≡ true) (sym work) (subst (λ (pl : WqPlace). touches pl e.addr ≡ true) pair.place l.inside);
      rule = ap (λ (c : NextWork). goes d c (rule_of (with_pair v p'))) l.comes_is
          ∙ (ap (λ (q : Pair). goes d (comes_looked p.may_send r e) (rule_of (with_pair v q))) l.pair
          ∙ (rule_looked ∙ ap (λ (w : Work). after_at d rule (at_of w) e) (sym work)));
      note_is = subst (λ (w : Work). IsAdapterNote (said_at d rule (at_of w) e) (sees_at rule (at_of w) e) None) (sym work) refl;
      scan = stands_look.scan;
      can_go = stands_look.can;
      declared = refl;
    }

  -- the record
  abbrev recorded : WqReader
  recorded = after_record r false e

  rule_recorded : goes d (comes_recorded p.may_send r e) (rule_of (after recorded)) ≡ after_recording d rule e
  rule_recorded =
      let next = rule_of (after recorded) in
      ready_row d p.may_send recorded next pair.may_send
      ∙ (ap (read_or_next d recorded) (side_moved v p found (with_side p recorded None) recorded refl refl)
      ∙ ap (λ (q : WqReader). read_or_next d (after_record q false e) (with_reader (after_record q false e) rule)) (sym (reader_is v p found)))

  module _ (p' : Pair) (comes : NextWork) (l : Records p p' e comes) (work : v.work ≡ works.Recording) where
    stands_record : Stands (with_pair v p') comes
    stands_record =
        let ready = p.may_send && nat_lt 0 recorded.ready in
        subst (λ (q : Pair). Stands (with_pair v q) comes) (sym l.pair)
        (subst (Stands (after recorded)) (sym l.comes_is) (stands_ready (after recorded) ready (scan_after recorded ready refl (ready_some p.may_send recorded.ready)) (inside_after recorded)))

    pub record_operates : Operates v (with_pair v p') e (record { comes = comes; note = None })
    record_operates = record {
      may = subst (λ (w : Work). MayAt d rule (at_of w) e) (sym work) (subst (λ (q : WqReader). MayRecord (send_of d rule.visit) q false e) (sym (reader_is v p found)) (subst (λ (pl : WqPlace). MayRecord pl r false e) pair.place l.may));
      inside = subst (λ (w : Work). is_about d (mark_at rule (at_of w)) e.addr ≡ true) (sym work) (subst (λ (pl : WqPlace). touches pl e.addr ≡ true) pair.place l.inside);
      rule = ap (λ (c : NextWork). goes d c (rule_of (with_pair v p'))) l.comes_is
          ∙ (ap (λ (q : Pair). goes d (comes_recorded p.may_send r e) (rule_of (with_pair v q))) l.pair
          ∙ (rule_recorded ∙ ap (λ (w : Work). after_at d rule (at_of w) e) (sym work)));
      note_is = subst (λ (w : Work). IsAdapterNote (said_at d rule (at_of w) e) (sees_at rule (at_of w) e) None) (sym work) refl;
      scan = stands_record.scan;
      can_go = stands_record.can;
      declared = refl;
    }
