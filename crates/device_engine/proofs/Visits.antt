-- The pair that is visited: what is known of it, and what its changes are to the adapter's rule.
use Rattle.std.proofs.Common.{◌^◌, ◌≡◌, ℕ, ◌+◌, ◌<◌, ◌&&◌, refl, sym, ap, ◌∙◌, subst, arith, cond, Bool, true, false, nat_lt, MatchBool, length, eq-eqb, Option, Some, None, slice_get, get_or}
use Rattle.std.proofs.lemmas.Option.{slice_get_read}
use Rattle.bus_core.specs.Port.{Port}
use Rattle.verbs_types.specs.declared.declaration.Lines.{Lines}
use Rattle.verbs_types.specs.declared.declaration.TheConstants.{FIRST_QP}
use Rattle.counted_ring.specs.Device.{WqReader}
use Rattle.counted_ring.specs.DeviceView.{DeviceTask}
use Rattle.counted_ring.specs.Turn.{CanServe}
use Rattle.device_engine.specs.declared.pair.Pair.{Pair}
use Rattle.device_engine.specs.declared.scan.Work.{Work}
use Rattle.device_engine.specs.declared.outcome.NextWork.{NextWork}
use Rattle.device_engine.specs.Goes.{goes}
use Rattle.device_engine.specs.Pair.{AtRead, IsLow}
use Rattle.device_engine.specs.Rows.{read_or_next}
use Rattle.device_engine.specs.Scan.{IsPair, IsReading, IsScan, IsStanding, IsThere, PairTask, task_of, ReadsPair, CanGo, task_before}
use Rattle.device_engine.specs.State.{AdapterRule, Reading, reader, may_send, working, next_visit, with_reader, with_taken, put_number, fresh_adapter}
use Rattle.device_engine.specs.NextWork.{comes_ready}
use Rattle.device_engine.specs.Turn.{CanScan}
use Rattle.device_engine.specs.Counts.{CountsBelow}
use Rattle.device_engine.specs.View.{ScanView, rule_of}
use Rattle.device_engine.proofs.Kept.{reads, with_pair}
use Rattle.device_engine.proofs.Numbers.{by_at, by_put, by_same}

abbrev pub side_of : Pair → WqReader
side_of p = p.requests.side

abbrev pub taken_of : Pair → ℕ
taken_of p = p.taken

module _ (v : ScanView) (p : Pair) (found : slice_get v.pairs v.visit ≡ Some p) where
  abbrev s : AdapterRule
  s = rule_of v

  pub reader_is : reader s ≡ p.requests.side
  reader_is = by_at FIRST_QP side_of (fresh_adapter v.declared).readers v.pairs v.visit p found

  pub taken_is : s.taken s.visit ≡ p.taken
  taken_is = by_at FIRST_QP taken_of (fresh_adapter v.declared).taken v.pairs v.visit p found

  -- its side has gone on
  pub side_moved : (p' : Pair) (r : WqReader) → p'.requests.side ≡ r → p'.taken ≡ p.taken → rule_of (with_pair v p') ≡ with_reader r s
  side_moved p' r side taken = λ i. record {
    visit = s.visit;
    at_work = s.at_work;
    taken = λ n. by_same FIRST_QP taken_of (fresh_adapter v.declared).taken v.pairs v.visit p p' found taken n i;
    readers = λ n. (by_put FIRST_QP side_of (fresh_adapter v.declared).readers v.pairs v.visit p p' found n ∙ ap (λ (x : WqReader). put_number s.readers s.visit x n) side) i;
    queues = s.queues;
  }

  -- and one request more was taken
  pub request_taken : (p' : Pair) (r : WqReader) → p'.requests.side ≡ r → p'.taken ≡ p.taken + 1 → rule_of (with_pair v p') ≡ with_taken (with_reader r s)
  request_taken p' r side taken = λ i. record {
    visit = s.visit;
    at_work = s.at_work;
    taken = λ n. (by_put FIRST_QP taken_of (fresh_adapter v.declared).taken v.pairs v.visit p p' found n ∙ ap (λ (x : ℕ). put_number s.taken s.visit x n) (taken ∙ ap (λ (x : ℕ). x + 1) (sym taken_is))) i;
    readers = λ n. (by_put FIRST_QP side_of (fresh_adapter v.declared).readers v.pairs v.visit p p' found n ∙ ap (λ (x : WqReader). put_number s.readers s.visit x n) side) i;
    queues = s.queues;
  }

  -- its counts are low
  pub is_low : (qp : ℕ) → IsPair v.declared qp p → CountsBelow (2 ^ 61) s → IsLow p
  is_low qp pair low = record {
    next = omega (arith, low.requests s.visit, ap (λ (r : WqReader). r.next) reader_is, pair.matched.next);
    taken = omega (arith, low.taken s.visit, taken_is);
  }

-- what stands while the adapter is at a kind of work
pub scan_at : (v : ScanView) (w : Work) → IsStanding v → v.work ≡ w → IsScan v (task_of w v.visit)
scan_at v w standing is = subst (λ (x : Work). IsScan v (task_of x v.visit)) is standing.scan

pub found_at : (v : ScanView) (w : Work) (p : Pair) → IsStanding v → v.work ≡ w → (IsThere v w → v.visit < length v.pairs) → p ≡ get_or v.pairs v.visit p → slice_get v.pairs v.visit ≡ Some p
found_at v w p standing is inside read = slice_get_read v.pairs (length v.pairs) v.visit p refl (inside (subst (IsThere v) is standing.there)) read

-- a port of the adapter serves its queue
pub serves : {Bus : Type 0} (d : Lines) (qp : ℕ) (p : Pair) (port : Port Bus) → IsPair d qp p → CanScan d port → CanServe p.requests.place port
serves d qp p port pair can = record {
  room = can.room;
  words = omega (arith, pair.within.record_word, can.words);
  register = λ r is. omega (arith, pair.within.register r is, can.words);
}

-- the pair's own task
pub task_here : (after : Bool) (i : ℕ) (q : Pair) → q.requests.task ≡ None → (after ≡ true → 0 < q.requests.side.ready) → PairTask (reads after i) i q
task_here true i q none ready = subst (λ (same : Bool). MatchBool same (IsReading q) (q.requests.task ≡ None)) (sym (eq-eqb i i refl)) (record { task = subst (λ (t : Option DeviceTask). AtRead t) (sym none) tt; ready = ready refl })
task_here false i q none ready = none

pub reading_here : (i : ℕ) (q : Pair) → IsReading q → PairTask (ReadsPair i) i q
reading_here i q is = subst (λ (same : Bool). MatchBool same (IsReading q) (q.requests.task ≡ None)) (sym (eq-eqb i i refl)) is

pub reading_was : (i : ℕ) (q : Pair) → PairTask (ReadsPair i) i q → IsReading q
reading_was i q is = subst (λ (same : Bool). MatchBool same (IsReading q) (q.requests.task ≡ None)) (eq-eqb i i refl) is

-- what comes after the register and the record is what the rule goes on to
pub goes_cond : (d : Lines) (b : Bool) (x y : NextWork) (s : AdapterRule) → goes d (cond b x y) s ≡ cond b (goes d x s) (goes d y s)
goes_cond d true x y s = refl
goes_cond d false x y s = refl

goes_ready : (d : Lines) (b : Bool) (s : AdapterRule) → goes d (comes_ready b) s ≡ cond b (working Reading s) (next_visit d s)
goes_ready d true s = refl
goes_ready d false s = refl

pub ready_row : (d : Lines) (may : Bool) (r : WqReader) (s : AdapterRule) → may ≡ may_send d s.visit → goes d (comes_ready (may && nat_lt 0 r.ready)) s ≡ read_or_next d r s
ready_row d may r s is = goes_ready d (may && nat_lt 0 r.ready) s ∙ ap (λ (m : Bool). cond (m && nat_lt 0 r.ready) (working Reading s) (next_visit d s)) is

-- it can go on so
pub record Stands (v : ScanView) (comes : NextWork) : Type 0 where
  pub scan : IsScan v (task_before comes v)
  pub can : CanGo v comes

pub stands_ready : (v : ScanView) (b : Bool) → IsScan v (reads b v.visit) → v.visit < length v.pairs → Stands v (comes_ready b)
stands_ready v true s inside = record { scan = s; can = inside }
stands_ready v false s inside = record { scan = s; can = inside }
