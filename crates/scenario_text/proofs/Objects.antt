-- What is declared stays of the grammar with one more line.
use Rattle.std.proofs.Common.{◌≡◌, ℕ, ◌+◌, ◌≤◌, List, [], ◌∷◌, ◌++◌, length, IsTrue, sym, arith}
use Rattle.std.proofs.lemmas.Bool.{and_parts, and_from, leb-true, le-leb, eqb-true, eq-eqb}
use Rattle.std.proofs.lemmas.List.{length_push}
use Rattle.verbs_types.specs.Lines.{are_few, are_in_turn, is_eq_line, is_cq_line, is_qp_line, is_connect_line}
use Rattle.verbs_types.specs.declared.declaration.Connect.{Connect}
use Rattle.verbs_types.specs.declared.declaration.CqLine.{CqLine}
use Rattle.verbs_types.specs.declared.declaration.EqLine.{EqLine}
use Rattle.verbs_types.specs.declared.declaration.Lines.{Lines}
use Rattle.verbs_types.specs.declared.declaration.Object.TheVariants as objects
use Rattle.verbs_types.specs.declared.declaration.PdLine.{PdLine}
use Rattle.verbs_types.specs.declared.declaration.QpLine.{QpLine}
use Rattle.verbs_types.specs.declared.declaration.TheConstants.{FIRST_PD, FIRST_QP}
use Rattle.scenario_text.proofs.Declaring.{with_eq, with_pd, with_cq, with_qp, with_connect, with_thread, more_eq, more_pd, more_cq, more_qp, more_connect, cq_line_more, qp_line_more, connect_line_more, turn_more}
use Rattle.scenario_text.proofs.Growing.{all_weaker, all_push}
use Rattle.scenario_text.proofs.Standing.{AreDeclared}

-- how many there are, as numbers
record AreFew (d : Lines) : Type 0 where
  eqs : length d.eqs ≤ 8
  pds : length d.pds ≤ 64
  cqs : length d.cqs ≤ 32
  qps : length d.qps ≤ 64

few_parts : (d : Lines) → IsTrue (are_few d) → AreFew d
few_parts d h =
    let qps = and_parts _ _ h in
    let cqs = and_parts _ _ qps.0 in
    let pds = and_parts _ _ cqs.0 in
    record { eqs = leb-true _ _ pds.0; pds = leb-true _ _ pds.1; cqs = leb-true _ _ cqs.1; qps = leb-true _ _ qps.1 }

few_from : (d : Lines) → AreFew d → IsTrue (are_few d)
few_from d f = and_from _ _ (and_from _ _ (and_from _ _ (le-leb _ _ f.eqs) (le-leb _ _ f.pds)) (le-leb _ _ f.cqs)) (le-leb _ _ f.qps)

-- the numbers after the last object
record AreNext (d : Lines) (e p c q : ℕ) : Type 0 where
  eq : e ≡ length d.eqs
  pd : p ≡ FIRST_PD + length d.pds
  cq : c ≡ length d.cqs
  qp : q ≡ FIRST_QP + length d.qps

next_parts : (d : Lines) (e p c q : ℕ) → IsTrue (are_in_turn d e p c q []) → AreNext d e p c q
next_parts d e p c q h =
    let qp = and_parts _ _ h in
    let cq = and_parts _ _ qp.0 in
    let pd = and_parts _ _ cq.0 in
    record { eq = eqb-true _ _ pd.0; pd = eqb-true _ _ pd.1; cq = eqb-true _ _ cq.1; qp = eqb-true _ _ qp.1 }

next_from : (d : Lines) (e p c q : ℕ) → AreNext d e p c q → IsTrue (are_in_turn d e p c q [])
next_from d e p c q n = and_from _ _ (and_from _ _ (and_from _ _ (eq-eqb _ _ n.eq) (eq-eqb _ _ n.pd)) (eq-eqb _ _ n.cq)) (eq-eqb _ _ n.qp)

module _ (d : Lines) (h : AreDeclared d) where
  few : AreFew d
  few = few_parts d h.few

  pub declared_eq : (l : EqLine) → length d.eqs + 1 ≤ 8 → IsTrue (is_eq_line l) → AreDeclared (with_eq d l)
  declared_eq l room line = record {
    few = few_from (with_eq d l) (record { eqs = omega (arith, length_push d.eqs l); pds = few.pds; cqs = few.cqs; qps = few.qps });
    turn = turn_more d (with_eq d l) (objects.Eq (length d.eqs)) last d.order 0 FIRST_PD 0 FIRST_QP h.turn;
    eqs = all_push is_eq_line d.eqs l h.eqs line;
    cqs = all_weaker _ _ (cq_line_more d (with_eq d l) (more_eq d l)) d.cqs h.cqs;
    qps = all_weaker _ _ (qp_line_more d (with_eq d l) (more_eq d l)) d.qps h.qps;
    connects = all_weaker _ _ (connect_line_more d (with_eq d l) (more_eq d l)) d.connects h.connects;
    threads = h.threads;
  }
    where
      last : (e p c q : ℕ) → IsTrue (are_in_turn d e p c q []) → IsTrue (are_in_turn (with_eq d l) e p c q (objects.Eq (length d.eqs) ∷ []))
      last e p c q t =
          let n : AreNext d e p c q = next_parts d e p c q t in
          and_from _ _ (eq-eqb _ _ (sym n.eq)) (next_from (with_eq d l) (e + 1) p c q (record { eq = omega (arith, length_push d.eqs l, n.eq); pd = n.pd; cq = n.cq; qp = n.qp }))

  pub declared_pd : (l : PdLine) → length d.pds + 1 ≤ 64 → AreDeclared (with_pd d l)
  declared_pd l room = record {
    few = few_from (with_pd d l) (record { eqs = few.eqs; pds = omega (arith, length_push d.pds l); cqs = few.cqs; qps = few.qps });
    turn = turn_more d (with_pd d l) (objects.Pd (FIRST_PD + length d.pds)) last d.order 0 FIRST_PD 0 FIRST_QP h.turn;
    eqs = h.eqs;
    cqs = all_weaker _ _ (cq_line_more d (with_pd d l) (more_pd d l)) d.cqs h.cqs;
    qps = all_weaker _ _ (qp_line_more d (with_pd d l) (more_pd d l)) d.qps h.qps;
    connects = all_weaker _ _ (connect_line_more d (with_pd d l) (more_pd d l)) d.connects h.connects;
    threads = h.threads;
  }
    where
      last : (e p c q : ℕ) → IsTrue (are_in_turn d e p c q []) → IsTrue (are_in_turn (with_pd d l) e p c q (objects.Pd (FIRST_PD + length d.pds) ∷ []))
      last e p c q t =
          let n : AreNext d e p c q = next_parts d e p c q t in
          and_from _ _ (eq-eqb _ _ (sym n.pd)) (next_from (with_pd d l) e (p + 1) c q (record { eq = n.eq; pd = omega (arith, length_push d.pds l, n.pd); cq = n.cq; qp = n.qp }))

  pub declared_cq : (l : CqLine) → length d.cqs + 1 ≤ 32 → IsTrue (is_cq_line d l) → AreDeclared (with_cq d l)
  declared_cq l room line = record {
    few = few_from (with_cq d l) (record { eqs = few.eqs; pds = few.pds; cqs = omega (arith, length_push d.cqs l); qps = few.qps });
    turn = turn_more d (with_cq d l) (objects.Cq (length d.cqs)) last d.order 0 FIRST_PD 0 FIRST_QP h.turn;
    eqs = h.eqs;
    cqs = all_weaker _ _ (cq_line_more d (with_cq d l) (more_cq d l)) (d.cqs ++ l ∷ []) (all_push (is_cq_line d) d.cqs l h.cqs line);
    qps = all_weaker _ _ (qp_line_more d (with_cq d l) (more_cq d l)) d.qps h.qps;
    connects = all_weaker _ _ (connect_line_more d (with_cq d l) (more_cq d l)) d.connects h.connects;
    threads = h.threads;
  }
    where
      last : (e p c q : ℕ) → IsTrue (are_in_turn d e p c q []) → IsTrue (are_in_turn (with_cq d l) e p c q (objects.Cq (length d.cqs) ∷ []))
      last e p c q t =
          let n : AreNext d e p c q = next_parts d e p c q t in
          and_from _ _ (eq-eqb _ _ (sym n.cq)) (next_from (with_cq d l) e p (c + 1) q (record { eq = n.eq; pd = n.pd; cq = omega (arith, length_push d.cqs l, n.cq); qp = n.qp }))

  pub declared_qp : (l : QpLine) → length d.qps + 1 ≤ 64 → IsTrue (is_qp_line d l) → AreDeclared (with_qp d l)
  declared_qp l room line = record {
    few = few_from (with_qp d l) (record { eqs = few.eqs; pds = few.pds; cqs = few.cqs; qps = omega (arith, length_push d.qps l) });
    turn = turn_more d (with_qp d l) (objects.Qp (FIRST_QP + length d.qps)) last d.order 0 FIRST_PD 0 FIRST_QP h.turn;
    eqs = h.eqs;
    cqs = all_weaker _ _ (cq_line_more d (with_qp d l) (more_qp d l)) d.cqs h.cqs;
    qps = all_weaker _ _ (qp_line_more d (with_qp d l) (more_qp d l)) (d.qps ++ l ∷ []) (all_push (is_qp_line d) d.qps l h.qps line);
    connects = all_weaker _ _ (connect_line_more d (with_qp d l) (more_qp d l)) d.connects h.connects;
    threads = h.threads;
  }
    where
      last : (e p c q : ℕ) → IsTrue (are_in_turn d e p c q []) → IsTrue (are_in_turn (with_qp d l) e p c q (objects.Qp (FIRST_QP + length d.qps) ∷ []))
      last e p c q t =
          let n : AreNext d e p c q = next_parts d e p c q t in
          and_from _ _ (eq-eqb _ _ (sym n.qp)) (next_from (with_qp d l) e p c (q + 1) (record { eq = n.eq; pd = n.pd; cq = n.cq; qp = omega (arith, length_push d.qps l, n.qp) }))

  pub declared_connect : (l : Connect) → IsTrue (is_connect_line d l) → AreDeclared (with_connect d l)
  declared_connect l line = record {
    few = h.few;
    turn = h.turn;
    eqs = h.eqs;
    cqs = all_weaker _ _ (cq_line_more d (with_connect d l) (more_connect d l)) d.cqs h.cqs;
    qps = all_weaker _ _ (qp_line_more d (with_connect d l) (more_connect d l)) d.qps h.qps;
    connects = all_weaker _ _ (connect_line_more d (with_connect d l) (more_connect d l)) (d.connects ++ l ∷ []) (all_push (is_connect_line d) d.connects l h.connects line);
    threads = h.threads;
  }

  pub declared_thread : (name : List ℕ) → length d.threads + 1 ≤ 16 → AreDeclared (with_thread d name)
  declared_thread name room = record {
    few = h.few;
    turn = h.turn;
    eqs = h.eqs;
    cqs = h.cqs;
    qps = h.qps;
    connects = h.connects;
    threads = omega (arith, length_push d.threads name);
  }
