-- What the lines of a scenario that can run declare.
use Rattle.std.proofs.Common.{◌≡◌, ℕ, zero, suc, ◌+◌, ◌-◌, ◌^◌, ◌<◌, ◌≤◌, ◌==◌, Bool, true, if◌then◌else◌, List, [], ◌∷◌, length, refl, ◌∙◌, ap, subst, arith, Option, Some, slice_get, IfSome}
use Rattle.std.specs.List.{list_all}
use Rattle.std.specs.Option.{option_map_or}
use Rattle.std.proofs.lemmas.Bool.{and_parts, cond-true}
use Rattle.verbs_types.specs.declared.call.Call.{Call}
use Rattle.verbs_types.specs.declared.declaration.CqLine.{CqLine}
use Rattle.verbs_types.specs.declared.declaration.QpLine.{QpLine}
use Rattle.verbs_types.specs.declared.declaration.Lines.{Lines}
use Rattle.verbs_types.specs.declared.declaration.TheConstants.{FIRST_QP}
use Rattle.verbs_types.specs.declared.state.QueuePair.{QueuePair}
use Rattle.verbs_types.specs.Lines.{is_declared, is_among, is_cq_line, is_qp_line}
use Rattle.verbs_rules.specs.Start.{start_pair, first_state, no_pair}
use Rattle.verbs_rules.specs.Within.{into}
use Rattle.verbs_laws.proofs.Failing.{is_between-true}
use Rattle.scenario_text.specs.Calls.{HasRoom}
use Rattle.scenario_text.specs.Limits.{counted_into, completing_into}

-- the parts of a declaration that is within its limits
pub record Declares (d : Lines) : Type 0 where
  pub cqs : list_all (is_cq_line d) d.cqs ≡ true
  pub qps : list_all (is_qp_line d) d.qps ≡ true

pub declares_by : (d : Lines) → is_declared d ≡ true → Declares d
declares_by d h =
    let qps = and_parts _ _ (and_parts _ _ h).0 in
    let cqs = and_parts _ _ qps.0 in
    record { cqs = cqs.1; qps = qps.1 }

-- the line at a place
pub record LineAt {X : Type 0} (passes : X → Bool) (lines : List X) (k : ℕ) : Type 0 where
  pub line : X
  pub there : slice_get lines k ≡ Some line
  pub passed : passes line ≡ true

pub line_at : {X : Type 0} (passes : X → Bool) (lines : List X) (k : ℕ) → list_all passes lines ≡ true → k < length lines → LineAt passes lines k
line_at passes [] k h low = absurd (omega (arith, low))
line_at passes (l ∷ ls) zero h low = record { line = l; there = refl; passed = (and_parts _ _ h).0 }
line_at passes (l ∷ ls) (suc k) h low = let rest = line_at passes ls k (and_parts _ _ h).1 (omega (arith, low)) in record { line = rest.line; there = rest.there; passed = rest.passed }

pub send_cq_live : (d : Lines) (l : QpLine) → is_qp_line d l ≡ true → is_among 0 (length d.cqs) l.send_cq ≡ true
send_cq_live d l h =
    let start = and_parts _ _ h in
    let segments = and_parts _ _ start.0 in
    let recv = and_parts _ _ segments.0 in
    let send = and_parts _ _ recv.0 in
    let recv_cq = and_parts _ _ send.0 in
    (and_parts _ _ recv_cq.0).1

pub segments_low : (d : Lines) (l : QpLine) → is_qp_line d l ≡ true → l.segments ≤ 8
segments_low d l h =
    let start = and_parts _ _ h in
    (is_between-true 1 8 l.segments (and_parts _ _ start.0).1).1

-- the queue pair of a line
pub pair_is : (d : Lines) (qp : ℕ) (l : QpLine) → is_among FIRST_QP (length d.qps) qp ≡ true → slice_get d.qps (qp - FIRST_QP) ≡ Some l → start_pair d qp ≡ record { state = first_state d qp; send_cq = l.send_cq; recv_cq = l.recv_cq }
pair_is d qp l lives there =
    cond-true _ _ _ lives
    ∙ ap (λ (o : Option QpLine). option_map_or (λ (x : QpLine). record { state = first_state d qp; send_cq = x.send_cq; recv_cq = x.recv_cq }) o no_pair) there

-- the requests whose completions go into a queue, by queue pairs and by lines
pub into_is : (pairs : ℕ → QueuePair) (count : ℕ → ℕ) (c q : ℕ) (ls : List QpLine) → ((k : ℕ) (l : QpLine) → slice_get ls k ≡ Some l → (pairs (q + k)).send_cq ≡ l.send_cq) → into pairs count c q (length ls) ≡ counted_into (λ (l : QpLine). l.send_cq) count c q ls
into_is pairs count c q [] same = refl
into_is pairs count c q (l ∷ ls) same =
    let here : (pairs q).send_cq ≡ l.send_cq = ap (λ i. (pairs i).send_cq) (let e : q ≡ q + 0 = omega arith in e) ∙ same 0 l refl in
    let rest : into pairs count c (q + 1) (length ls) ≡ counted_into (λ (x : QpLine). x.send_cq) count c (q + 1) ls =
    into_is pairs count c (q + 1) ls (λ k x there. ap (λ i. (pairs i).send_cq) (let e : q + 1 + k ≡ q + suc k = omega arith in e) ∙ same (suc k) x there) in
    ap (λ m. m + into pairs count c (q + 1) (length ls)) (ap (λ n. if n == c then count q else 0) here)
    ∙ ap (λ m. (if l.send_cq == c then count q else 0) + m) rest

-- a declared queue has room for all that completes into it
pub room_for : (d : Lines) (programs : List (List Call)) (c : ℕ) (l : CqLine) → HasRoom d programs → c < length d.cqs → slice_get d.cqs c ≡ Some l → completing_into c FIRST_QP d.qps programs ≤ 2 ^ l.log
room_for d programs c l room low there = subst (λ (o : Option CqLine). IfSome o (λ (x : CqLine). completing_into c FIRST_QP d.qps programs ≤ 2 ^ x.log)) there (room c low)
