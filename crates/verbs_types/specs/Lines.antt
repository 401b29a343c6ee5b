-- Which declaration lines name declared objects and are within the limits.
use Rattle.std.specs.Prelude.{ℕ, Bool, ◌&&◌, ◌==◌, ◌+◌, ◌-◌, ◌^◌, nat_le, nat_lt, List, [], ◌∷◌, length}
use Rattle.std.specs.List.{list_all}
use Rattle.verbs_types.specs.declared.declaration.EqLine.{EqLine}
use Rattle.verbs_types.specs.declared.declaration.CqLine.{CqLine}
use Rattle.verbs_types.specs.declared.declaration.QpLine.{QpLine}
use Rattle.verbs_types.specs.declared.declaration.Connect.{Connect}
use Rattle.verbs_types.specs.declared.declaration.Object.{Object}
use Rattle.verbs_types.specs.declared.declaration.Object.TheVariants.{Eq, Pd, Cq, Qp}
use Rattle.verbs_types.specs.declared.declaration.Lines.{Lines}
use Rattle.verbs_types.specs.declared.declaration.TheConstants.{FIRST_PD, FIRST_QP}

-- the number is one of `count`, counted from `first`
abbrev pub is_among : ℕ → ℕ → ℕ → Bool
is_among first count number = nat_le first number && nat_lt (number - first) count

-- the number is from the least to the most
abbrev pub is_between : ℕ → ℕ → ℕ → Bool
is_between least most number = nat_le least number && nat_le number most

-- an event queue of 2 to 1,024 entries
abbrev pub is_eq_line : EqLine → Bool
is_eq_line l = is_between 1 10 l.log

-- a completion queue of a declared event queue, of at most 4,096 entries and no more than its areas hold
abbrev pub is_cq_line : Lines → CqLine → Bool
is_cq_line d l = is_between 1 12 l.ceiling && is_between 1 l.ceiling l.log && is_among 0 (length d.eqs) l.eq && nat_le l.start (2 ^ 32)

-- a queue pair of a declared protection domain and declared completion queues
abbrev pub is_qp_line : Lines → QpLine → Bool
is_qp_line d l =
    is_among FIRST_PD (length d.pds) l.pd && is_among 0 (length d.cqs) l.send_cq && is_among 0 (length d.cqs) l.recv_cq
    && nat_le l.send_log 8 && nat_le l.recv_log 8 && is_between 1 8 l.segments && nat_le l.start (2 ^ 32)

abbrev pub is_connect_line : Lines → Connect → Bool
is_connect_line d l = is_among FIRST_QP (length d.qps) l.a && is_among FIRST_QP (length d.qps) l.b

-- how many objects of each kind there are
abbrev pub are_few : Lines → Bool
are_few d = nat_le (length d.eqs) 8 && nat_le (length d.pds) 64 && nat_le (length d.cqs) 32 && nat_le (length d.qps) 64

-- the objects of each kind come by their numbers, from these on, and all of them come
abbrev pub are_in_turn : Lines → ℕ → ℕ → ℕ → ℕ → List Object → Bool
are_in_turn d e p c q [] = (e == length d.eqs) && (p == FIRST_PD + length d.pds) && (c == length d.cqs) && (q == FIRST_QP + length d.qps)
are_in_turn d e p c q (Eq n ∷ more) = (n == e) && are_in_turn d (e + 1) p c q more
are_in_turn d e p c q (Pd n ∷ more) = (n == p) && are_in_turn d e (p + 1) c q more
are_in_turn d e p c q (Cq n ∷ more) = (n == c) && are_in_turn d e p (c + 1) q more
are_in_turn d e p c q (Qp n ∷ more) = (n == q) && are_in_turn d e p c (q + 1) more

abbrev pub is_declared : Lines → Bool
is_declared d =
    are_few d && are_in_turn d 0 FIRST_PD 0 FIRST_QP d.order && list_all is_eq_line d.eqs && list_all (is_cq_line d) d.cqs
    && list_all (is_qp_line d) d.qps && list_all (is_connect_line d) d.connects
