-- The objects that the adapter begins with are those of the lines.
use Rattle.std.proofs.Common.{◌≡◌, ℕ, ◌+◌, ◌-◌, ◌^◌, ◌<◌, ◌≤◌, refl, sym, ap, ◌∙◌, subst, arith, cond, Bool, true, false, IsTrue, List, [], ◌∷◌, ◌++◌, length, length-append, zero-add, Option, Some, None, slice_get}
use Rattle.std.specs.Option.{option_map_or}
use Rattle.std.proofs.lemmas.Bool.{and_parts, cond-true}
use Rattle.std.proofs.lemmas.Option.{slice_get-get_or}
use Rattle.verbs_types.specs.declared.declaration.Lines.{Lines}
use Rattle.verbs_types.specs.declared.declaration.QpLine.{QpLine}
use Rattle.verbs_types.specs.declared.declaration.TheConstants.{FIRST_QP}
use Rattle.verbs_types.specs.declared.state.QpState.TheVariants.{Reset, Rts}
use Rattle.verbs_types.specs.declared.state.QueuePair.{QueuePair}
use Rattle.verbs_types.specs.Lines.{is_among, is_declared}
use Rattle.verbs_rules.specs.Rows.{works}
use Rattle.verbs_rules.specs.Start.{is_connected, first_state, start_pair, no_pair}
use Rattle.actor_map.specs.Sizes.{words_of}
use Rattle.cq_pair.specs.DeviceView as queue
use Rattle.counted_ring.specs.declared.place.WqPlace.{WqPlace}
use Rattle.counted_ring.specs.DeviceView.{DeviceView}
use Rattle.counted_ring.specs.Place.{is_send}
use Rattle.object_places.specs.Places.{IsWithin, qp_line, no_qp, send_of}
use Rattle.object_places.proofs.Lines.{lines_of, qp_number, is_qp, cq_number}
use Rattle.device_engine.specs.declared.pair.Pair.{Pair}
use Rattle.device_engine.specs.First.{IsFirstPair, IsFirstQueue, AreFirstPairs, AreFirstQueues}
use Rattle.device_engine.specs.Scan.{IsScan, Idle}
use Rattle.device_engine.specs.State.{may_send, send_cq, visiting, first_work, fresh_adapter}
use Rattle.device_engine.specs.View.{ScanView, rule_of}
use Rattle.device_engine.proofs.Numbers.{each_more, by_other}
use Rattle.device_engine.proofs.Publications.{side_of}
use Rattle.device_engine.proofs.Visits.{taken_of, side_of as pair_side}

-- the pair of a declared number
start_pair_is : (d : Lines) (qp : ℕ) → IsTrue (is_among FIRST_QP (length d.qps) qp)
    → start_pair d qp ≡ record { state = first_state d qp; send_cq = (qp_line d qp).send_cq; recv_cq = (qp_line d qp).recv_cq }
start_pair_is d qp among =
    cond-true _ _ _ among
    ∙ ap (λ (o : Option QpLine). option_map_or (λ (l : QpLine). record { state = first_state d qp; send_cq = l.send_cq; recv_cq = l.recv_cq }) o no_pair) (slice_get-get_or d.qps (qp - FIRST_QP) no_qp (qp_number d qp among).below)

works_connected : (b : Bool) → works (cond b Rts Reset) ≡ b
works_connected true = refl
works_connected false = refl

pub may_send_is : (d : Lines) (qp : ℕ) → IsTrue (is_among FIRST_QP (length d.qps) qp) → may_send d qp ≡ is_connected d qp
may_send_is d qp among = ap (λ (p : QueuePair). works p.state) (start_pair_is d qp among) ∙ works_connected (is_connected d qp)

pub send_cq_is : (d : Lines) (qp : ℕ) → IsTrue (is_among FIRST_QP (length d.qps) qp) → send_cq d qp ≡ (qp_line d qp).send_cq
send_cq_is d qp among = ap (λ (p : QueuePair). p.send_cq) (start_pair_is d qp among)

-- the limits of its line
pub record IsPairLine (d : Lines) (qp : ℕ) : Type 0 where
  pub start : (qp_line d qp).start ≤ 2 ^ 32
  pub send_cq_lives : (qp_line d qp).send_cq < length d.cqs
  pub number : qp < 2 ^ 24

pub pair_line : (d : Lines) (qp : ℕ) → IsTrue (is_declared d) → IsTrue (is_among FIRST_QP (length d.qps) qp) → IsPairLine d qp
pair_line d qp h among =
    let lines = lines_of d h in
    let number = qp_number d qp among in
    let start = and_parts _ _ (lines.qps (qp - FIRST_QP) no_qp number.below) in
    let segments = and_parts _ _ start.0 in
    let receives = and_parts _ _ segments.0 in
    let sends = and_parts _ _ receives.0 in
    let recv_cq = and_parts _ _ sends.0 in
    let own_cq = and_parts _ _ recv_cq.0 in
    record {
      start = (is_qp d qp h among).start;
      send_cq_lives = cq_number d (qp_line d qp).send_cq own_cq.1;
      number = omega (arith, number.low, number.below, lines.few_qps);
    }

-- a pair of these parts is the first one of its number
pub record FirstParts (d : Lines) (qp : ℕ) (requests : DeviceView) (place : WqPlace) (line : QpLine) (may : Bool) : Type 0 where
  pub among : IsTrue (is_among FIRST_QP (length d.qps) qp)
  pub place_is : place ≡ send_of d qp
  pub within : IsWithin (words_of d) place
  pub line_is : line ≡ qp_line d qp
  pub send_cq_lives : (qp_line d qp).send_cq < length d.cqs
  pub number : qp < 2 ^ 24
  pub requests_are : requests ≡ record { place = place; side = record { next = line.start; ready = 0; register = 0; words = [] }; task = None }
  pub may_is : may ≡ is_connected d qp

pub first_pair_is : (d : Lines) (qp : ℕ) (requests : DeviceView) (place : WqPlace) (line : QpLine) (may : Bool) → FirstParts d qp requests place line may
    → IsFirstPair d qp (record { requests = requests; place = place; number = qp; next = line.start; taken = 0; may_send = may; send_cq = line.send_cq })
first_pair_is d qp requests place line may f =
    let placed : requests.place ≡ place = ap (λ (x : DeviceView). x.place) f.requests_are in
    let at_it : requests.place ≡ send_of d qp = placed ∙ f.place_is in
    let cq : line.send_cq ≡ (qp_line d qp).send_cq = ap (λ (l : QpLine). l.send_cq) f.line_is in
    record {
      pair = record {
        matched = record {
          send = ap is_send at_it;
          stride = ap (λ (pl : WqPlace). pl.stride) at_it;
          place = sym placed;
          next = sym (ap (λ (x : DeviceView). x.side.next) f.requests_are);
          number = f.number;
        };
        number = refl;
        place = at_it;
        within = subst (IsWithin (words_of d)) (sym placed) f.within;
        may_send = f.may_is ∙ sym (may_send_is d qp f.among);
        send_cq = cq ∙ sym (send_cq_is d qp f.among);
        send_cq_lives = subst (λ (n : ℕ). n < length d.cqs) (sym cq) f.send_cq_lives;
      };
      task = ap (λ (x : DeviceView). x.task) f.requests_are;
      side = ap (λ (x : DeviceView). x.side) f.requests_are ∙ ap (λ (l : QpLine). record { next = l.start; ready = 0; register = 0; words = [] }) f.line_is;
      taken = refl;
    }

-- one pair more, and one completion queue more
pub no_pairs : (d : Lines) → AreFirstPairs d 0 []
no_pairs d = record { count_is = refl; each = λ i p found. absurd (cc) }

pub one_pair_more : (d : Lines) (count : ℕ) (pairs : List Pair) (p : Pair) → AreFirstPairs d count pairs → IsFirstPair d (FIRST_QP + count) p → AreFirstPairs d (count + 1) (pairs ++ p ∷ [])
one_pair_more d count pairs p first is = record {
  count_is = omega (arith, length-append pairs (p ∷ []), first.count_is);
  each = each_more (λ i q. IsFirstPair d (FIRST_QP + i) q) pairs p first.each (subst (λ (n : ℕ). IsFirstPair d (FIRST_QP + n) p) (sym first.count_is) is);
}

pub no_queues : (d : Lines) → AreFirstQueues d 0 []
no_queues d = record { count_is = refl; each = λ i q found. absurd (cc) }

pub one_queue_more : (d : Lines) (count : ℕ) (queues : List queue.DeviceView) (q : queue.DeviceView) → AreFirstQueues d count queues → IsFirstQueue d count q → AreFirstQueues d (count + 1) (queues ++ q ∷ [])
one_queue_more d count queues q first is = record {
  count_is = omega (arith, length-append queues (q ∷ []), first.count_is);
  each = each_more (IsFirstQueue d) queues q first.each (subst (λ (n : ℕ). IsFirstQueue d n q) (sym first.count_is) is);
}

-- the lists of the lines, in which nothing was seen
module _ (v : ScanView) (pairs : AreFirstPairs v.declared (length v.declared.qps) v.pairs) (queues : AreFirstQueues v.declared (length v.declared.cqs) v.queues) where
  abbrev d : Lines
  d = v.declared

  pub first_stands : IsTrue (is_declared d) → v.visit ≡ 0 → IsScan v Idle
  first_stands declared visit = record {
    declared = declared;
    all_pairs = pairs.count_is;
    all_queues = queues.count_is;
    visit = omega (arith, visit);
    pairs = λ i p found. (pairs.each i p found).pair;
    queues = λ i q found. (queues.each i q found).queue_is;
    pair_tasks = λ i p found. (pairs.each i p found).task;
    queue_tasks = λ i q found. (queues.each i q found).task;
  }

  pub first_rule : visiting d (FIRST_QP + 0) (rule_of v) ≡ fresh_adapter d
  first_rule = λ i. record {
    visit = FIRST_QP;
    at_work = first_work d FIRST_QP;
    taken = λ n. by_other FIRST_QP taken_of (fresh_adapter d).taken v.pairs (λ k p found. (pairs.each k p found).taken) n i;
    readers = λ n. by_other FIRST_QP pair_side (fresh_adapter d).readers v.pairs (λ k p found. (pairs.each k p found).side) n i;
    queues = λ n. by_other 0 side_of (fresh_adapter d).queues v.queues queue_side n i;
  }
    where
      queue_side : (k : ℕ) (q : queue.DeviceView) → slice_get v.queues k ≡ Some q → q.side ≡ (fresh_adapter d).queues (0 + k)
      queue_side k q found = (queues.each k q found).side ∙ ap (fresh_adapter d).queues (sym (zero-add k))
