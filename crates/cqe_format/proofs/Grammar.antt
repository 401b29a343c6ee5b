-- The grammar of completions as a test.
use Rattle.std.proofs.Common.{◌≡◌, ℕ, ◌^◌, ◌&&◌, ◌||◌, ◌==◌, Bool, true, false, nat_lt, is_some, refl}
use Rattle.std.specs.Bool.{beq}
use Rattle.std.proofs.lemmas.Bool.{and_parts, and_from, eqb-true, eq-eqb, ltb-true, lt-ltb}
use Rattle.cqe_format.specs.declared.completion.Cqe.{Cqe}
use Rattle.cqe_format.specs.Opcode.{is_request, is_receive, is_error, is_known, has_srqn, has_imm, has_len, has_qpn, is_send_opcode}
use Rattle.cqe_format.specs.Syndrome.{syndrome_of}
use Rattle.cqe_format.specs.Completion.{OnlyWhere, IsCompletion}

only_where : (has : Bool) (number : ℕ) → (has || (number == 0)) ≡ true → OnlyWhere has number
only_where true number test none = absurd (cc)
only_where false number test none = eqb-true number 0 test

only_where-test : (has : Bool) (number : ℕ) → OnlyWhere has number → (has || (number == 0)) ≡ true
only_where-test true number is = refl
only_where-test false number is = eq-eqb number 0 (is refl)

same_true : (a b : Bool) → beq a b ≡ true → a ≡ b
same_true true true test = refl
same_true true false test = absurd (cc)
same_true false true test = absurd (cc)
same_true false false test = refl

same-test : (a b : Bool) → a ≡ b → beq a b ≡ true
same-test true b same = rw (← same) refl
same-test false b same = rw (← same) refl

receive_or : (has a b : Bool) → (has || beq a b) ≡ true → has ≡ false → a ≡ b
receive_or true a b test none = absurd (cc)
receive_or false a b test none = same_true a b test

receive_or-test : (has a b : Bool) → (has ≡ false → a ≡ b) → (has || beq a b) ≡ true
receive_or-test true a b is = refl
receive_or-test false a b is = same-test a b (is refl)

-- the test of the grammar, in the order of its facts
abbrev pub passes : Cqe → Bool
passes c =
    is_known c.opcode
    && (c.format == 0)
    && is_send_opcode c.sop
    && (is_request c.opcode || (c.sop == 0))
    && nat_lt c.qpn (2 ^ 24)
    && (has_qpn c.opcode || (c.qpn == 0))
    && (has_qpn c.opcode || (c.counter == 0))
    && (has_srqn c.opcode || (c.srqn == 0))
    && (has_imm c.opcode || (c.imm == 0))
    && (has_len c.opcode || (c.len == 0))
    && (is_error c.opcode || (c.syndrome == 0))
    && beq (is_some (syndrome_of c.syndrome)) (is_error c.opcode)
    && (is_receive c.opcode || beq c.solicited (is_error c.opcode))

pub from_test : (c : Cqe) → passes c ≡ true → IsCompletion c
from_test c h =
    let p12 = and_parts _ _ h in
    let p11 = and_parts _ _ p12.0 in
    let p10 = and_parts _ _ p11.0 in
    let p9 = and_parts _ _ p10.0 in
    let p8 = and_parts _ _ p9.0 in
    let p7 = and_parts _ _ p8.0 in
    let p6 = and_parts _ _ p7.0 in
    let p5 = and_parts _ _ p6.0 in
    let p4 = and_parts _ _ p5.0 in
    let p3 = and_parts _ _ p4.0 in
    let p2 = and_parts _ _ p3.0 in
    let p1 = and_parts _ _ p2.0 in
    record {
      opcode = p1.0;
      format = eqb-true c.format 0 p1.1;
      sop = only_where (is_request c.opcode) c.sop p3.1;
      sop_known = p2.1;
      qpn = only_where (has_qpn c.opcode) c.qpn p5.1;
      qpn_bits = ltb-true c.qpn (2 ^ 24) p4.1;
      counter = only_where (has_qpn c.opcode) c.counter p6.1;
      srqn = only_where (has_srqn c.opcode) c.srqn p7.1;
      imm = only_where (has_imm c.opcode) c.imm p8.1;
      len = only_where (has_len c.opcode) c.len p9.1;
      syndrome = only_where (is_error c.opcode) c.syndrome p10.1;
      syndrome_known = same_true (is_some (syndrome_of c.syndrome)) (is_error c.opcode) p11.1;
      solicited = receive_or (is_receive c.opcode) c.solicited (is_error c.opcode) p12.1;
    }

pub to_test : (c : Cqe) → IsCompletion c → passes c ≡ true
to_test c is =
    and_from _ _ (and_from _ _ (and_from _ _ (and_from _ _ (and_from _ _ (and_from _ _ (and_from _ _ (and_from _ _ (and_from _ _ (and_from _ _ (and_from _ _ (and_from _ _
    is.opcode
    (eq-eqb c.format 0 is.format))
    is.sop_known)
    (only_where-test (is_request c.opcode) c.sop is.sop))
    (lt-ltb c.qpn (2 ^ 24) is.qpn_bits))
    (only_where-test (has_qpn c.opcode) c.qpn is.qpn))
    (only_where-test (has_qpn c.opcode) c.counter is.counter))
    (only_where-test (has_srqn c.opcode) c.srqn is.srqn))
    (only_where-test (has_imm c.opcode) c.imm is.imm))
    (only_where-test (has_len c.opcode) c.len is.len))
    (only_where-test (is_error c.opcode) c.syndrome is.syndrome))
    (same-test (is_some (syndrome_of c.syndrome)) (is_error c.opcode) is.syndrome_known))
    (receive_or-test (is_receive c.opcode) c.solicited (is_error c.opcode) is.solicited)
