-- Declared objects with one more.
use Rattle.std.proofs.Common.{ℕ, ◌+◌, ◌≤◌, List, [], ◌∷◌, ◌++◌, length, IsTrue, arith}
use Rattle.std.proofs.lemmas.Bool.{and_parts, and_from}
use Rattle.verbs_types.specs.Lines.{are_in_turn, is_cq_line, is_qp_line, is_connect_line}
use Rattle.verbs_types.specs.declared.declaration.Connect.{Connect}
use Rattle.verbs_types.specs.declared.declaration.CqLine.{CqLine}
use Rattle.verbs_types.specs.declared.declaration.EqLine.{EqLine}
use Rattle.verbs_types.specs.declared.declaration.Lines.{Lines}
use Rattle.verbs_types.specs.declared.declaration.Object.{Object}
use Rattle.verbs_types.specs.declared.declaration.Object.TheVariants as objects
use Rattle.verbs_types.specs.declared.declaration.PdLine.{PdLine}
use Rattle.verbs_types.specs.declared.declaration.QpLine.{QpLine}
use Rattle.verbs_types.specs.declared.declaration.TheConstants.{FIRST_PD, FIRST_QP}
use Rattle.scenario_text.proofs.Growing.{among_more, push_longer}

-- the lines with one more
abbrev pub with_eq : Lines → EqLine → Lines
with_eq d l = record d { eqs = d.eqs ++ l ∷ []; order = d.order ++ objects.Eq (length d.eqs) ∷ [] }

abbrev pub with_pd : Lines → PdLine → Lines
with_pd d l = record d { pds = d.pds ++ l ∷ []; order = d.order ++ objects.Pd (FIRST_PD + length d.pds) ∷ [] }

abbrev pub with_cq : Lines → CqLine → Lines
with_cq d l = record d { cqs = d.cqs ++ l ∷ []; order = d.order ++ objects.Cq (length d.cqs) ∷ [] }

abbrev pub with_qp : Lines → QpLine → Lines
with_qp d l = record d { qps = d.qps ++ l ∷ []; order = d.order ++ objects.Qp (FIRST_QP + length d.qps) ∷ [] }

abbrev pub with_connect : Lines → Connect → Lines
with_connect d l = record d { connects = d.connects ++ l ∷ [] }

abbrev pub with_thread : Lines → List ℕ → Lines
with_thread d name = record d { threads = d.threads ++ name ∷ [] }

-- no list is shorter
pub record IsMore (d e : Lines) : Type 0 where
  pub eqs : length d.eqs ≤ length e.eqs
  pub pds : length d.pds ≤ length e.pds
  pub cqs : length d.cqs ≤ length e.cqs
  pub qps : length d.qps ≤ length e.qps
  pub threads : length d.threads ≤ length e.threads

module _ (d : Lines) where
  pub more_eq : (l : EqLine) → IsMore d (with_eq d l)
  more_eq l = record { eqs = push_longer d.eqs l; pds = omega arith; cqs = omega arith; qps = omega arith; threads = omega arith }

  pub more_pd : (l : PdLine) → IsMore d (with_pd d l)
  more_pd l = record { eqs = omega arith; pds = push_longer d.pds l; cqs = omega arith; qps = omega arith; threads = omega arith }

  pub more_cq : (l : CqLine) → IsMore d (with_cq d l)
  more_cq l = record { eqs = omega arith; pds = omega arith; cqs = push_longer d.cqs l; qps = omega arith; threads = omega arith }

  pub more_qp : (l : QpLine) → IsMore d (with_qp d l)
  more_qp l = record { eqs = omega arith; pds = omega arith; cqs = omega arith; qps = push_longer d.qps l; threads = omega arith }

  pub more_connect : (l : Connect) → IsMore d (with_connect d l)
  more_connect l = record { eqs = omega arith; pds = omega arith; cqs = omega arith; qps = omega arith; threads = omega arith }

  pub more_thread : (name : List ℕ) → IsMore d (with_thread d name)
  more_thread name = record { eqs = omega arith; pds = omega arith; cqs = omega arith; qps = omega arith; threads = push_longer d.threads name }

-- lines that name what is declared still do
pub cq_line_more : (d e : Lines) → IsMore d e → (l : CqLine) → IsTrue (is_cq_line d l) → IsTrue (is_cq_line e l)
cq_line_more d e more l h =
    let start = and_parts _ _ h in
    let eq = and_parts _ _ start.0 in
    and_from _ _ (and_from _ _ eq.0 (among_more 0 _ _ l.eq more.eqs eq.1)) start.1

pub qp_line_more : (d e : Lines) → IsMore d e → (l : QpLine) → IsTrue (is_qp_line d l) → IsTrue (is_qp_line e l)
qp_line_more d e more l h =
    let start = and_parts _ _ h in
    let segments = and_parts _ _ start.0 in
    let recv = and_parts _ _ segments.0 in
    let send = and_parts _ _ recv.0 in
    let to = and_parts _ _ send.0 in
    let from = and_parts _ _ to.0 in
    let pd = among_more FIRST_PD _ _ l.pd more.pds from.0 in
    let all = and_from _ _ (and_from _ _ pd (among_more 0 _ _ l.send_cq more.cqs from.1)) (among_more 0 _ _ l.recv_cq more.cqs to.1) in
    and_from _ _ (and_from _ _ (and_from _ _ (and_from _ _ all send.1) recv.1) segments.1) start.1

pub connect_line_more : (d e : Lines) → IsMore d e → (l : Connect) → IsTrue (is_connect_line d l) → IsTrue (is_connect_line e l)
connect_line_more d e more l h =
    let both = and_parts _ _ h in
    and_from _ _ (among_more FIRST_QP _ _ l.a more.qps both.0) (among_more FIRST_QP _ _ l.b more.qps both.1)

-- objects in turn, with one more
pub turn_more : (d e : Lines) (o : Object) → ((n p c q : ℕ) → IsTrue (are_in_turn d n p c q []) → IsTrue (are_in_turn e n p c q (o ∷ []))) → (order : List Object) (n p c q : ℕ)
    → IsTrue (are_in_turn d n p c q order) → IsTrue (are_in_turn e n p c q (order ++ o ∷ []))
turn_more d e o last [] n p c q h = last n p c q h
turn_more d e o last (objects.Eq k ∷ order) n p c q h = let both = and_parts _ _ h in and_from _ _ both.0 (turn_more d e o last order (n + 1) p c q both.1)
turn_more d e o last (objects.Pd k ∷ order) n p c q h = let both = and_parts _ _ h in and_from _ _ both.0 (turn_more d e o last order n (p + 1) c q both.1)
turn_more d e o last (objects.Cq k ∷ order) n p c q h = let both = and_parts _ _ h in and_from _ _ both.0 (turn_more d e o last order n p (c + 1) q both.1)
turn_more d e o last (objects.Qp k ∷ order) n p c q h = let both = and_parts _ _ h in and_from _ _ both.0 (turn_more d e o last order n p c (q + 1) both.1)
