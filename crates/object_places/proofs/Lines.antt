-- What the lines of declared objects say.
use Rattle.std.proofs.Common.{ℕ, ◌-◌, ◌^◌, ◌<◌, ◌≤◌, length, get_or, IsTrue, nat_le, nat_lt, leb-true, arith}
use Rattle.std.proofs.lemmas.Bool.{and_parts, ltb-true}
use Rattle.std.proofs.lemmas.List.Sums.{AllPass-from_list_all}
use Rattle.verbs_types.specs.Lines.{is_among, is_declared, is_eq_line, is_cq_line, is_qp_line}
use Rattle.verbs_types.specs.declared.declaration.EqLine.{EqLine}
use Rattle.verbs_types.specs.declared.declaration.CqLine.{CqLine}
use Rattle.verbs_types.specs.declared.declaration.QpLine.{QpLine}
use Rattle.verbs_types.specs.declared.declaration.Lines.{Lines}
use Rattle.verbs_types.specs.declared.declaration.TheConstants.{FIRST_QP}
use Rattle.actor_map.specs.Limits.{IsEqSize, IsQpSize}
use Rattle.object_places.specs.Places.{cq_line, no_cq, qp_line, no_qp}

-- a declared completion queue
pub record IsCq (d : Lines) (cq : ℕ) : Type 0 where
  pub below : cq < length d.cqs
  pub ceiling : (cq_line d cq).ceiling ≤ 12
  pub log : (cq_line d cq).log ≤ (cq_line d cq).ceiling
  pub start : (cq_line d cq).start ≤ 2 ^ 32

-- the number of a queue pair
pub record IsQpNumber (d : Lines) (qp : ℕ) : Type 0 where
  pub low : FIRST_QP ≤ qp
  pub below : qp - FIRST_QP < length d.qps

-- a declared queue pair
pub record IsQp (d : Lines) (qp : ℕ) : Type 0 where
  pub number : IsQpNumber d qp
  pub small : IsQpSize (qp_line d qp)
  pub start : (qp_line d qp).start ≤ 2 ^ 32

-- the lines of each kind
pub record AreLines (d : Lines) : Type 0 where
  pub few_eqs : length d.eqs ≤ 8
  pub few_cqs : length d.cqs ≤ 32
  pub few_qps : length d.qps ≤ 64
  pub eqs : (n : ℕ) (l : EqLine) → n < length d.eqs → IsTrue (is_eq_line (get_or d.eqs n l))
  pub cqs : (n : ℕ) (l : CqLine) → n < length d.cqs → IsTrue (is_cq_line d (get_or d.cqs n l))
  pub qps : (n : ℕ) (l : QpLine) → n < length d.qps → IsTrue (is_qp_line d (get_or d.qps n l))

pub lines_of : (d : Lines) → IsTrue (is_declared d) → AreLines d
lines_of d h =
    let connects = and_parts _ _ h in
    let qps = and_parts _ _ connects.0 in
    let cqs = and_parts _ _ qps.0 in
    let eqs = and_parts _ _ cqs.0 in
    let few = and_parts _ _ (and_parts _ _ eqs.0).0 in
    let few_cqs = and_parts _ _ few.0 in
    let few_pds = and_parts _ _ few_cqs.0 in
    record {
      few_eqs = leb-true (length d.eqs) 8 few_pds.0;
      few_cqs = leb-true (length d.cqs) 32 few_cqs.1;
      few_qps = leb-true (length d.qps) 64 few.1;
      eqs = λ n l below. AllPass-from_list_all is_eq_line d.eqs eqs.1 n l below;
      cqs = λ n l below. AllPass-from_list_all (is_cq_line d) d.cqs cqs.1 n l below;
      qps = λ n l below. AllPass-from_list_all (is_qp_line d) d.qps qps.1 n l below;
    }

-- what a line's test says
pub eq_size : (l : EqLine) → IsTrue (is_eq_line l) → IsEqSize l
eq_size l h = leb-true l.log 10 (and_parts _ _ h).1

pub record IsCqLine (l : CqLine) : Type 0 where
  pub ceiling : l.ceiling ≤ 12
  pub log : l.log ≤ l.ceiling
  pub start : l.start ≤ 2 ^ 32

pub cq_sizes : (d : Lines) (l : CqLine) → IsTrue (is_cq_line d l) → IsCqLine l
cq_sizes d l h =
    let start = and_parts _ _ h in
    let log = and_parts _ _ (and_parts _ _ start.0).0 in
    record {
      ceiling = leb-true l.ceiling 12 (and_parts _ _ log.0).1;
      log = leb-true l.log l.ceiling (and_parts _ _ log.1).1;
      start = leb-true l.start (2 ^ 32) start.1;
    }

pub record IsQpLine (l : QpLine) : Type 0 where
  pub small : IsQpSize l
  pub start : l.start ≤ 2 ^ 32

pub qp_sizes : (d : Lines) (l : QpLine) → IsTrue (is_qp_line d l) → IsQpLine l
qp_sizes d l h =
    let start = and_parts _ _ h in
    let receives = and_parts _ _ (and_parts _ _ start.0).0 in
    record {
      small = (leb-true l.send_log 8 (and_parts _ _ receives.0).1, leb-true l.recv_log 8 receives.1);
      start = leb-true l.start (2 ^ 32) start.1;
    }

-- a declared number, and its line
pub cq_number : (d : Lines) (cq : ℕ) → IsTrue (is_among 0 (length d.cqs) cq) → cq < length d.cqs
cq_number d cq among = let both = and_parts (nat_le 0 cq) (nat_lt (cq - 0) (length d.cqs)) among in omega (arith, ltb-true (cq - 0) (length d.cqs) both.1)

pub qp_number : (d : Lines) (qp : ℕ) → IsTrue (is_among FIRST_QP (length d.qps) qp) → IsQpNumber d qp
qp_number d qp among = let both = and_parts _ _ among in record { low = leb-true FIRST_QP qp both.0; below = ltb-true (qp - FIRST_QP) (length d.qps) both.1 }

pub is_cq : (d : Lines) (cq : ℕ) → IsTrue (is_declared d) → IsTrue (is_among 0 (length d.cqs) cq) → IsCq d cq
is_cq d cq h among =
    let below = cq_number d cq among in
    let line = cq_sizes d (cq_line d cq) ((lines_of d h).cqs cq no_cq below) in
    record { below = below; ceiling = line.ceiling; log = line.log; start = line.start }

pub is_qp : (d : Lines) (qp : ℕ) → IsTrue (is_declared d) → IsTrue (is_among FIRST_QP (length d.qps) qp) → IsQp d qp
is_qp d qp h among =
    let number = qp_number d qp among in
    let line = qp_sizes d (qp_line d qp) ((lines_of d h).qps (qp - FIRST_QP) no_qp number.below) in
    record { number = number; small = line.small; start = line.start }
