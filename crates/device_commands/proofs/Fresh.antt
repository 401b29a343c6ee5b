-- Tables without an object.
use Rattle.std.proofs.Common.{◌≡◌, ℕ, ◌≤◌, ◌<◌, ap, arith, IsTrue, List, [], length, replicate}
use Rattle.std.specs.List.{list_all}
use Rattle.std.proofs.lemmas.Bool.{and_parts, leb-true}
use Rattle.std.proofs.lemmas.List.{get_or-replicate, length-replicate}
use Rattle.verbs_types.specs.declared.declaration.Lines.{Lines}
use Rattle.verbs_types.specs.declared.declaration.TheConstants.{FIRST_PD, FIRST_QP}
use Rattle.verbs_types.specs.Lines.{is_declared, are_few, are_in_turn, is_eq_line, is_cq_line, is_qp_line, is_connect_line}
use Rattle.device_commands.specs.Users.{IsTally, EqsCounted, PairsCounted, eq_uses, pd_uses, cq_uses}

pub record AreFew (d : Lines) : Type 0 where
  pub eqs : length d.eqs ≤ 8
  pub pds : length d.pds ≤ 64
  pub cqs : length d.cqs ≤ 32
  pub qps : length d.qps ≤ 64

pub few_declared : (d : Lines) → IsTrue (is_declared d) → AreFew d
few_declared d declared =
    let one = and_parts _ (list_all (is_connect_line d) d.connects) declared in
    let two = and_parts _ (list_all (is_qp_line d) d.qps) one.0 in
    let three = and_parts _ (list_all (is_cq_line d) d.cqs) two.0 in
    let four = and_parts _ (list_all is_eq_line d.eqs) three.0 in
    let five = and_parts (are_few d) (are_in_turn d 0 FIRST_PD 0 FIRST_QP d.order) four.0 in
    let six = and_parts _ _ five.0 in
    let seven = and_parts _ _ six.0 in
    let eight = and_parts _ _ seven.0 in
    record { eqs = leb-true (length d.eqs) 8 eight.0; pds = leb-true (length d.pds) 64 eight.1; cqs = leb-true (length d.cqs) 32 seven.1; qps = leb-true (length d.qps) 64 six.1 }

none_used : {X : Type 0} (users : List ℕ) (count : ℕ) (uses : ℕ → X → ℕ) → users ≡ replicate count 0 → IsTally users uses []
none_used users count uses is n h =
    let short : n < count = omega (arith, ap length is, length-replicate {A = ℕ} count 0) in
    rw is (get_or-replicate {A = ℕ} count n 0 0 short)

pub no_cqs : (users : List ℕ) (count : ℕ) → users ≡ replicate count 0 → EqsCounted users []
no_cqs users count is = record { tally = none_used users count eq_uses is; inside = λ k d h. absurd (omega arith) }

pub no_pairs : (pd_users cq_users : List ℕ) (pds cqs : ℕ) → pd_users ≡ replicate pds 0 → cq_users ≡ replicate cqs 0 → PairsCounted pd_users cq_users []
no_pairs pd_users cq_users pds cqs pd_is cq_is = record {
  pds = none_used pd_users pds pd_uses pd_is;
  cqs = none_used cq_users cqs cq_uses cq_is;
  inside = λ k d h. absurd (omega arith);
}
