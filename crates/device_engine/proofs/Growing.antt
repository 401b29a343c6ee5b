-- Counts and indices rise by at most four an operation.
use Rattle.std.proofs.Common.{◌≡◌, ℕ, ◌+◌, ◌-◌, ◌^◌, ◌<◌, ◌≤◌, ◌==◌, inl, inr, refl, sym, ap, subst, arith, cond, Bool, true, false, nat_lt, IsTrue, List, [], ◌∷◌, ◌++◌, length, get_or, Option, Some, None}
use Rattle.std.specs.Prelude.{slice_index}
use Rattle.std.proofs.lemmas.Bool.{cases_Bool, cond_both, ltb-true}
use Rattle.std.proofs.lemmas.List.{get_or_past}
use Rattle.std.proofs.lemmas.Bool.{cases_lt}
use Rattle.bus_core.specs.declared.operation.BusEntry.{BusEntry}
use Rattle.bus_core.specs.Operation.{loaded, stored}
use Rattle.verbs_types.specs.declared.declaration.Lines.{Lines}
use Rattle.verbs_types.specs.Lines.{is_declared}
use Rattle.verbs_types.specs.declared.declaration.QpLine.{QpLine}
use Rattle.verbs_types.specs.declared.declaration.CqLine.{CqLine}
use Rattle.verbs_types.specs.declared.declaration.TheConstants.{FIRST_QP}
use Rattle.verbs_laws.proofs.Families.{put_at, put_beside}
use Rattle.cqe_format.specs.declared.completion.Cqe.{Cqe}
use Rattle.owner_ring.specs.declared.place.RingPlace.{RingPlace}
use Rattle.owner_ring.specs.Producer.{Producer, Ready, Filling, next_index, after_produce}
use Rattle.owner_ring.specs.Place.{distance, size}
use Rattle.cq_pair.specs.declared.place.CqPlace.{CqPlace}
use Rattle.cq_pair.specs.Place.{ring_of}
use Rattle.cq_pair.specs.Device.{QueueDevice, after_deliver}
use Rattle.cq_pair.specs.DeviceView.{mark_of}
use Rattle.cq_pair.specs.Queue.{QueueEvent}
use Rattle.counted_ring.specs.declared.place.WqPlace.{WqPlace}
use Rattle.counted_ring.specs.Device.{WqReader, reach, is_whole, after_look, after_read}
use Rattle.counted_ring.specs.Place.{is_send, span, most}
use Rattle.counted_ring.specs.Queue.{Took}
use Rattle.counted_ring.proofs.Parts.{span_few}
use Rattle.object_places.specs.Places.{completions_of, send_of, qp_line, no_qp, cq_line, no_cq}
use Rattle.object_places.proofs.Lines.{lines_of, qp_sizes, cq_sizes}
use Rattle.device_engine.specs.Counts.{CountsBelow, CountsGrow}
use Rattle.device_engine.specs.Entry.{wants, nop_cqe}
use Rattle.device_engine.specs.Rows.{is_ready, read_or_next, recorded, fetched, published, publish_event, publish_mark}
use Rattle.device_engine.specs.Rule.{after_at}
use Rattle.device_engine.specs.State.{AdapterAt, AdapterRule, Looking, Recording, Reading, Publishing, Ending, reader, visiting, working, next_visit, with_reader, with_taken, with_queue, put_number, send_cq, fresh_adapter}

-- one changed value
put_below : {V : Type 0} (count : V → ℕ) (f : ℕ → V) (key : ℕ) (value : V) (most : ℕ) → ((n : ℕ) → count (f n) < most) → count value < most → (n : ℕ) → count (put_number f key value n) < most
put_below count f key value most each here n =
    elim (cases_Bool (n == key)) [
      | inl same ↦ subst (λ v. count v < most) (sym (put_at (λ (a b : ℕ). a == b) f key value n same)) here
      | inr beside ↦ subst (λ v. count v < most) (sym (put_beside (λ (a b : ℕ). a == b) f key value n beside)) (each n)
    ]

-- counts do not hang on what the adapter is at
at_work_below : (most : ℕ) (s : AdapterRule) (w : AdapterAt) → CountsBelow most s → CountsBelow most (working w s)
at_work_below most s w c = record { requests = c.requests; taken = c.taken; completions = c.completions }

visit_below : (most : ℕ) (d : Lines) (qp : ℕ) (s : AdapterRule) → CountsBelow most s → CountsBelow most (visiting d qp s)
visit_below most d qp s c = record { requests = c.requests; taken = c.taken; completions = c.completions }

-- a greater bound
wider : (most : ℕ) (s : AdapterRule) → CountsBelow most s → CountsBelow (most + 4) s
wider most s c = record {
  requests = λ qp. omega (arith, c.requests qp);
  taken = λ qp. omega (arith, c.taken qp);
  completions = λ cq. omega (arith, c.completions cq);
}

-- a queue's device takes at most four blocks
most_few : (place : WqPlace) → most place ≤ 4
most_few place = cond_both (is_send place) 4 1 (λ k. k ≤ 4) (λ t. omega arith) (λ t. omega arith)

reach_few : (place : WqPlace) (ready first : ℕ) → reach place ready first ≤ 4
reach_few place ready first =
    let few : span place first ≤ 4 = omega (arith, span_few place first, most_few place) in
    cond_both (nat_lt ready (span place first)) ready (span place first) (λ k. k ≤ 4) (λ t. omega (arith, ltb-true ready (span place first) t, few)) (λ t. few)

read_few : (place : WqPlace) (r : WqReader) (e : BusEntry) → (after_read place r e).next ≤ r.next + 4
read_few place r e =
    let words = r.words ++ loaded e ∷ [] in
    let blocks = reach place r.ready (slice_index words 0) in
    cond_both (is_whole place r.ready words) (record { next = r.next + blocks; ready = r.ready - blocks; register = r.register; words = [] }) (record { next = r.next; ready = r.ready; register = r.register; words = words })
    (λ (q : WqReader). q.next ≤ r.next + 4) (λ t. omega (arith, reach_few place r.ready (slice_index words 0))) (λ t. omega arith)

-- and a publication one entry
produce_few : (place : RingPlace) (p : Producer) (e : BusEntry) → next_index (after_produce place p e) ≤ next_index p + 1
produce_few place (Ready index) e = cond_both (nat_lt (distance index (loaded e)) (size place)) (Filling index []) (Ready index) (λ (p : Producer). next_index p ≤ index + 1) (λ t. omega arith) (λ t. omega arith)
produce_few place (Filling index words) e = cond_both (length words == 7) (Ready (index + 1)) (Filling index (words ++ stored e ∷ [])) (λ (p : Producer). next_index p ≤ index + 1) (λ t. omega arith) (λ t. omega arith)

deliver_few : (place : CqPlace) (q : QueueDevice) (completion : Cqe) (overrun : Bool) (e : BusEntry) → next_index (after_deliver place q (mark_of (Some completion) overrun) e).producer ≤ next_index q.producer + 1
deliver_few place q completion false e = produce_few (ring_of place) q.producer e
deliver_few place q completion true e = omega arith

module _ (bound : ℕ) (d : Lines) (s : AdapterRule) (e : BusEntry) (c : CountsBelow bound s) where
  abbrev Below : AdapterRule → Type 0
  Below after = CountsBelow (bound + 4) after

  side_below : (q : WqReader) → q.next < bound + 4 → Below (with_reader q s)
  side_below q low = let w = wider bound s c in record {
    requests = put_below (λ (r : WqReader). r.next) s.readers s.visit q (bound + 4) w.requests low;
    taken = w.taken;
    completions = w.completions;
  }

  taken_below : (q : WqReader) → q.next < bound + 4 → Below (with_taken (with_reader q s))
  taken_below q low = let w = side_below q low in record {
    requests = w.requests;
    taken = put_below (λ (n : ℕ). n) s.taken s.visit (s.taken s.visit + 1) (bound + 4) w.taken (omega (arith, c.taken s.visit));
    completions = w.completions;
  }

  queue_below : (cq : ℕ) (q : QueueDevice) → next_index q.producer < bound + 4 → Below (with_queue cq q s)
  queue_below cq q low = let w = wider bound s c in record {
    requests = w.requests;
    taken = w.taken;
    completions = put_below (λ (x : QueueDevice). next_index x.producer) s.queues cq q (bound + 4) w.completions low;
  }

  -- a state of these counts, at a read or the next visit
  shown_below : (r : WqReader) (after : AdapterRule) → Below after → Below (read_or_next d r after)
  shown_below r after low = cond_both (is_ready d after.visit r) (working Reading after) (next_visit d after) Below (λ t. at_work_below (bound + 4) after Reading low) (λ t. visit_below (bound + 4) d (after.visit + 1) after low)

  looked_below : Below (after_at d s Looking e)
  looked_below =
      let q = after_look (reader s) e in
      let low = side_below q (omega (arith, c.requests s.visit)) in
      cond_both (loaded e == (reader s).register) (read_or_next d (reader s) (with_reader q s)) (working Recording (with_reader q s)) Below
      (λ t. shown_below (reader s) (with_reader q s) low) (λ t. at_work_below (bound + 4) (with_reader q s) Recording low)

  read_below : Below (after_at d s Reading e)
  read_below =
      let place = send_of d s.visit in
      let q = after_read place (reader s) e in
      let words = (reader s).words ++ loaded e ∷ [] in
      let low : q.next < bound + 4 = omega (arith, read_few place (reader s) e, c.requests s.visit) in
      let after = with_taken (with_reader q s) in
      let counted = taken_below q low in
      whole_below words q low (is_whole place (reader s).ready words)
    where
      whole_below : (words : List ℕ) (q : WqReader) → q.next < bound + 4 → (whole : Bool) → Below (fetched d (reader s).next (cond whole (Some (Took words)) None) (with_reader q s))
      whole_below words q low true =
          cond_both (wants words) (working (Publishing (send_cq d s.visit) (nop_cqe s.visit (reader s).next)) (with_taken (with_reader q s))) (next_visit d (with_taken (with_reader q s))) Below
          (λ t. at_work_below (bound + 4) (with_taken (with_reader q s)) (Publishing (send_cq d s.visit) (nop_cqe s.visit (reader s).next)) (taken_below q low))
          (λ t. visit_below (bound + 4) d (s.visit + 1) (with_taken (with_reader q s)) (taken_below q low))
      whole_below words q low false = side_below q low

  published_below : (event : Option QueueEvent) (after : AdapterRule) → Below after → Below (published d event after)
  published_below None after low = low
  published_below (Some event) after low = visit_below (bound + 4) d (after.visit + 1) after low

  below_after : (work : AdapterAt) → Below (after_at d s work e)
  below_after Looking = looked_below
  below_after Recording = shown_below (recorded s e) (with_reader (recorded s e) s) (side_below (recorded s e) (omega (arith, c.requests s.visit)))
  below_after Reading = read_below
  below_after (Publishing cq completion) =
      let q = after_deliver (completions_of d cq) (s.queues cq) (publish_mark s cq completion) e in
      published_below (publish_event d s cq completion e) (with_queue cq q s)
      (queue_below cq q (omega (arith, deliver_few (completions_of d cq) (s.queues cq) completion (s.queues cq).overrun e, c.completions cq)))
  below_after Ending = visit_below (bound + 4) d FIRST_QP s (wider bound s c)

-- the counts of declared lines
line_below : {X : Type 0} (start : X → ℕ) (xs : List X) (k : ℕ) (none : X) → start none ≡ 0 → (k < length xs → start (get_or xs k none) ≤ 2 ^ 32) → start (get_or xs k none) < 2 ^ 32 + 1
line_below start xs k none is listed =
    elim (cases_lt k (length xs)) [
      | inl inside ↦ omega (arith, listed inside)
      | inr past ↦ let same = ap start (get_or_past xs k none past) in omega (arith, same, is)
    ]

first_below : (d : Lines) → IsTrue (is_declared d) → CountsBelow (2 ^ 32 + 1) (fresh_adapter d)
first_below d h =
    let lines = lines_of d h in
    record {
      requests = λ qp. line_below (λ (l : QpLine). l.start) d.qps (qp - FIRST_QP) no_qp refl (λ inside. (qp_sizes d (qp_line d qp) (lines.qps (qp - FIRST_QP) no_qp inside)).start);
      taken = λ qp. omega arith;
      completions = λ cq. line_below (λ (l : CqLine). l.start) d.cqs cq no_cq refl (λ inside. (cq_sizes d (cq_line d cq) (lines.cqs cq no_cq inside)).start);
    }

pub counts_grow : CountsGrow
counts_grow = record { first = first_below; next = λ d s e bound c. below_after bound d s e c s.at_work }
