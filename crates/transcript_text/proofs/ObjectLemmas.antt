-- The objects of declared lines are those of the lines.
use Rattle.std.proofs.Common.{◌≡◌, ℕ, ◌+◌, ◌≤◌, Bool, ◌&&◌, eqb, List, [], ◌∷◌, length, All, IsTrue, arith}
use Rattle.std.proofs.lemmas.Bool.{and_parts, eqb-true}
use Rattle.std.proofs.lemmas.List.Elements.{All-nil, All-cons}
use Rattle.verbs_types.specs.Lines.{is_declared, are_in_turn, is_among}
use Rattle.verbs_types.specs.declared.declaration.Lines.{Lines}
use Rattle.verbs_types.specs.declared.declaration.Object.{Object}
use Rattle.verbs_types.specs.declared.declaration.Object.TheVariants.{Eq, Pd, Cq, Qp}
use Rattle.verbs_types.specs.declared.declaration.TheConstants.{FIRST_PD, FIRST_QP}
use Rattle.transcript_text.specs.Numbers.{IsObject}

-- the next numbers of the kinds are not past the declared ones
record AreWithin (d : Lines) (e p c q : ℕ) : Type 0 where
  eq : e ≤ length d.eqs
  pd : p ≤ FIRST_PD + length d.pds
  cq : c ≤ length d.cqs
  qp : q ≤ FIRST_QP + length d.qps

all_came : (d : Lines) (e p c q : ℕ) → IsTrue (are_in_turn d e p c q []) → AreWithin d e p c q
all_came d e p c q h = record { eq = grind arith; pd = grind arith; cq = grind arith; qp = grind arith }

-- the number is the next one, and the others come by their turn
is_next : (n next : ℕ) (rest : Bool) → IsTrue (eqb n next && rest) → (n ≡ next) × IsTrue rest
is_next n next rest h = let both = and_parts (eqb n next) rest h in (eqb-true n next both.0, both.1)

within : (d : Lines) (e p c q : ℕ) (os : List Object) → IsTrue (are_in_turn d e p c q os) → AreWithin d e p c q
within d e p c q [] h = all_came d e p c q h
within d e p c q (Eq n ∷ os) h =
    let more = within d (e + 1) p c q os (is_next n e (are_in_turn d (e + 1) p c q os) h).1 in
    record { eq = omega arith; pd = more.pd; cq = more.cq; qp = more.qp }
within d e p c q (Pd n ∷ os) h =
    let more = within d e (p + 1) c q os (is_next n p (are_in_turn d e (p + 1) c q os) h).1 in
    record { eq = more.eq; pd = omega arith; cq = more.cq; qp = more.qp }
within d e p c q (Cq n ∷ os) h =
    let more = within d e p (c + 1) q os (is_next n c (are_in_turn d e p (c + 1) q os) h).1 in
    record { eq = more.eq; pd = more.pd; cq = omega arith; qp = more.qp }
within d e p c q (Qp n ∷ os) h =
    let more = within d e p c (q + 1) os (is_next n q (are_in_turn d e p c (q + 1) os) h).1 in
    record { eq = more.eq; pd = more.pd; cq = more.cq; qp = omega arith }

-- the number that comes next is one of so many, if the one after it is not past them
among : (first count n next : ℕ) → first ≤ next → next + 1 ≤ first + count → n ≡ next → IsTrue (is_among first count n)
among first count n next least most here = grind arith

objects_stand : (d : Lines) (e p c q : ℕ) (os : List Object) → FIRST_PD ≤ p → FIRST_QP ≤ q → IsTrue (are_in_turn d e p c q os) → All (IsObject d) os
objects_stand d e p c q [] first_pd first_qp h = All-nil (IsObject d)
objects_stand d e p c q (Eq n ∷ os) first_pd first_qp h =
    let (here, later) = is_next n e (are_in_turn d (e + 1) p c q os) h in
    let bound = within d (e + 1) p c q os later in
    All-cons (IsObject d) (Eq n) os (among 0 (length d.eqs) n e (omega arith) (omega arith) here) (objects_stand d (e + 1) p c q os first_pd first_qp later)
objects_stand d e p c q (Pd n ∷ os) first_pd first_qp h =
    let (here, later) = is_next n p (are_in_turn d e (p + 1) c q os) h in
    let bound = within d e (p + 1) c q os later in
    All-cons (IsObject d) (Pd n) os (among FIRST_PD (length d.pds) n p first_pd bound.pd here) (objects_stand d e (p + 1) c q os (omega arith) first_qp later)
objects_stand d e p c q (Cq n ∷ os) first_pd first_qp h =
    let (here, later) = is_next n c (are_in_turn d e p (c + 1) q os) h in
    let bound = within d e p (c + 1) q os later in
    All-cons (IsObject d) (Cq n) os (among 0 (length d.cqs) n c (omega arith) (omega arith) here) (objects_stand d e p (c + 1) q os first_pd first_qp later)
objects_stand d e p c q (Qp n ∷ os) first_pd first_qp h =
    let (here, later) = is_next n q (are_in_turn d e p c (q + 1) os) h in
    let bound = within d e p c (q + 1) os later in
    All-cons (IsObject d) (Qp n) os (among FIRST_QP (length d.qps) n q first_qp bound.qp here) (objects_stand d e p c (q + 1) os first_pd (omega arith) later)

in_turn : (d : Lines) → IsTrue (is_declared d) → IsTrue (are_in_turn d 0 FIRST_PD 0 FIRST_QP d.order)
in_turn d h = grind arith

pub objects_are_declared : (d : Lines) → IsTrue (is_declared d) → All (IsObject d) d.order
objects_are_declared d h = objects_stand d 0 FIRST_PD 0 FIRST_QP d.order (omega arith) (omega arith) (in_turn d h)
