-- Tests whether two values are the same.
use Rattle.std.specs.Prelude.{ℕ, Bool, true, false, not, ◌&&◌, ◌==◌, Option, None, Some, List, [], ◌∷◌}
use Rattle.verbs_types.specs.declared.completion.Queue.{Queue}
use Rattle.verbs_types.specs.declared.completion.Queue.TheVariants.{Send, Recv, Shared}
use Rattle.verbs_types.specs.declared.completion.Kind.{Kind}
use Rattle.verbs_types.specs.declared.completion.Kind.TheVariants.{Nop, Send as SendKind, Write, Read, Cas, Faa, Recv as RecvKind, RecvImm, RecvWrite, Failed}
use Rattle.verbs_types.specs.declared.completion.Completion.{Completion}
use Rattle.verbs_types.specs.declared.state.Unpolled.{Unpolled}

abbrev pub same_queue : Queue → Queue → Bool
same_queue (Send n) (Send m) = n == m
same_queue (Recv n) (Recv m) = n == m
same_queue (Shared n) (Shared m) = n == m
same_queue _ _ = false

abbrev pub kind_number : Kind → ℕ
kind_number Nop = 0
kind_number SendKind = 1
kind_number Write = 2
kind_number Read = 3
kind_number Cas = 4
kind_number Faa = 5
kind_number RecvKind = 6
kind_number RecvImm = 7
kind_number RecvWrite = 8
kind_number Failed = 9

abbrev pub same_flag : Bool → Bool → Bool
same_flag true b = b
same_flag false b = not b

abbrev pub same_immediate : Option ℕ → Option ℕ → Bool
same_immediate None None = true
same_immediate (Some n) (Some m) = n == m
same_immediate _ _ = false

abbrev pub same_completion : Completion → Completion → Bool
same_completion x y =
    same_queue x.queue y.queue && (x.qp == y.qp) && (x.id == y.id) && (x.status == y.status) && (kind_number x.kind == kind_number y.kind) && (x.len == y.len)
    && same_immediate x.imm y.imm
    && same_flag x.solicited y.solicited

-- the completions are the front of those that no poll took
abbrev pub is_front : List Completion → List Unpolled → Bool
is_front [] us = true
is_front (x ∷ xs) [] = false
is_front (x ∷ xs) (u ∷ us) = same_completion x u.completion && is_front xs us
