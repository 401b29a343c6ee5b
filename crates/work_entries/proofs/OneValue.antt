-- No words spell two values.
use Rattle.std.proofs.Common.{◌≡◌, ℕ, suc, ◌-◌, ◌*◌, ◌==◌, Bool, true, false, not, bit_and, List, [], ◌∷◌, length, take, drop, replicate, Some, refl, sym, ap, ◌∙◌, arith, Result, Ok, Err, IfOk}
use Rattle.std.specs.List.{AllByRecursion}
use Rattle.std.proofs.lemmas.Bool.{both_ways}
use Rattle.std.proofs.lemmas.List.{take_at}
use Rattle.prm_fields.specs.Bits.{field_value}
use Rattle.prm_fields.specs.Refusal.{RefusesBy}
use Rattle.prm_fields.specs.Spelling.{Spells}
use Rattle.prm_fields.specs.declared.layout.LayoutName.TheVariants.{DataUnit}
use Rattle.verbs_types.specs.declared.request.Op.{Op}
use Rattle.verbs_types.specs.declared.request.Op.TheVariants.{Nop as NopOp, Send as SendOp, SendImm as SendImmOp, Write, WriteImm, Read, Cas, Faa}
use Rattle.verbs_types.specs.declared.request.Sge.{Sge}
use Rattle.work_entries.specs.declared.fault.BadEntry.{BadEntry}
use Rattle.work_entries.specs.declared.opcode.Opcode.{Opcode}
use Rattle.work_entries.specs.declared.opcode.Opcode.TheVariants.{Nop, RdmaWrite, RdmaWriteImm, Send, SendImm, RdmaRead, AtomicCs, AtomicFa}
use Rattle.work_entries.specs.declared.sent.Sent.{Sent}
use Rattle.work_entries.specs.declared.sent.SentBody.{SentBody}
use Rattle.work_entries.specs.declared.sent.SentBody.TheVariants.{Sges, Inline}
use Rattle.work_entries.specs.declared.units.SendWords.{SendWords}
use Rattle.work_entries.specs.Filled.{filled}
use Rattle.work_entries.specs.Opcode.{opcode_from, opcode_number, opcode_of, fixed_units}
use Rattle.work_entries.specs.Unit.{unit, units}
use Rattle.work_entries.specs.Control.{flags_of}
use Rattle.work_entries.specs.Operation.{HasOperation, immediate_of}
use Rattle.work_entries.specs.Body.{HasBody, HasInline, HasSegments, IsShort, MayCarry, begins_inline, body_units, inline_units, segment_values}
use Rattle.work_entries.specs.Send.{IsSend, units_of}
use Rattle.work_entries.specs.Rules.{send_rules}
use Rattle.work_entries.proofs.Accepted.{accepted, segments_plain}
use Rattle.work_entries.proofs.Reading.{opcode_from-number}

-- the operation that an opcode, an immediate, and units 1 and 2 spell
read_op : Opcode → ℕ → List ℕ → List ℕ → Op
read_op Nop imm remote operands = NopOp
read_op Send imm remote operands = SendOp
read_op SendImm imm remote operands = SendImmOp imm
read_op RdmaWrite imm remote operands = Write (field_value remote 0 64) (field_value remote 64 32)
read_op RdmaWriteImm imm remote operands = WriteImm (field_value remote 0 64) (field_value remote 64 32) imm
read_op RdmaRead imm remote operands = Read (field_value remote 0 64) (field_value remote 64 32)
read_op AtomicCs imm remote operands = Cas (field_value remote 0 64) (field_value remote 64 32) (field_value operands 64 64) (field_value operands 0 64)
read_op AtomicFa imm remote operands = Faa (field_value remote 0 64) (field_value remote 64 32) (field_value operands 0 64)

op_is : (op : Op) (words : List ℕ) → HasOperation op words → read_op (opcode_of op) (immediate_of op) (unit words 1) (unit words 2) ≡ op
unfolding read_op
op_is NopOp words has = refl
op_is SendOp words has = refl
op_is (SendImmOp imm) words has = refl
op_is (Write raddr rkey) words has = rw (has.0, has.1.0) refl
op_is (WriteImm raddr rkey imm) words has = rw (has.0, has.1.0) refl
op_is (Read raddr rkey) words has = rw (has.0, has.1.0) refl
op_is (Cas raddr rkey compare swap) words has = rw (has.0.0, has.0.1.0, has.1.0, has.1.1.0) refl
op_is (Faa raddr rkey add) words has = rw (has.0.0, has.0.1.0, has.1.0) refl

same_op : (a b : Op) (words : List ℕ) → HasOperation a words → HasOperation b words → opcode_of a ≡ opcode_of b → immediate_of a ≡ immediate_of b → a ≡ b
same_op a b words has_a has_b opcode immediate =
    sym (op_is a words has_a)
    ∙ ap (λ (o : Opcode). read_op o (immediate_of a) (unit words 1) (unit words 2)) opcode
    ∙ ap (λ i. read_op (opcode_of b) i (unit words 1) (unit words 2)) immediate
    ∙ op_is b words has_b

same_opcode : (a b : Opcode) → opcode_number a ≡ opcode_number b → a ≡ b
same_opcode a b same =
    let found : Some a ≡ Some b = sym (opcode_from-number a) ∙ ap opcode_from same ∙ opcode_from-number b in
    cc

-- each flag by its bit

abbrev has_flag : ℕ → ℕ → Bool
has_flag flag flags = not (bit_and flags flag == 0)

wanted_is : (wanted solicited fence : Bool) → has_flag 0x08 (flags_of wanted solicited fence) ≡ wanted
wanted_is true true true = refl
wanted_is true true false = refl
wanted_is true false true = refl
wanted_is true false false = refl
wanted_is false true true = refl
wanted_is false true false = refl
wanted_is false false true = refl
wanted_is false false false = refl

solicited_is : (wanted solicited fence : Bool) → has_flag 0x02 (flags_of wanted solicited fence) ≡ solicited
solicited_is true true true = refl
solicited_is true true false = refl
solicited_is true false true = refl
solicited_is true false false = refl
solicited_is false true true = refl
solicited_is false true false = refl
solicited_is false false true = refl
solicited_is false false false = refl

fence_is : (wanted solicited fence : Bool) → has_flag 0x80 (flags_of wanted solicited fence) ≡ fence
fence_is true true true = refl
fence_is true true false = refl
fence_is true false true = refl
fence_is true false false = refl
fence_is false true true = refl
fence_is false true false = refl
fence_is false false true = refl
fence_is false false false = refl

-- the data

abbrev make_sge : ℕ → ℕ → ℕ → Sge
make_sge key addr len = record { key = key; addr = addr; len = len }

pub same_sge : (a b : Sge) (bytes : List ℕ) → Spells DataUnit (segment_values a) bytes → Spells DataUnit (segment_values b) bytes → a ≡ b
same_sge a b bytes has_a has_b =
    ap (λ k. make_sge k a.addr a.len) (sym has_a.1.0 ∙ has_b.1.0)
    ∙ ap (λ n. make_sge b.key n a.len) (sym has_a.1.1.0 ∙ has_b.1.1.0)
    ∙ ap (λ n. make_sge b.key b.addr n) (sym has_a.0 ∙ has_b.0)

pub same_sges : (a b : List Sge) (words : List ℕ) (k : ℕ) → HasSegments a words k → HasSegments b words k → length a ≡ length b → a ≡ b
same_sges [] [] words k has_a has_b long = refl
same_sges [] (y ∷ b) words k has_a has_b long = absurd (omega arith)
same_sges (x ∷ a) [] words k has_a has_b long = absurd (omega arith)
same_sges (x ∷ a) (y ∷ b) words k has_a has_b long =
    ap (λ (z : Sge). z ∷ a) (same_sge x y (unit words k) has_a.0 has_b.0) ∙ ap (λ (zs : List Sge). y ∷ zs) (same_sges a b words (suc k) has_a.1 has_b.1 (omega arith))

same_inline : (a b words : List ℕ) (k : ℕ) → HasInline a words k → HasInline b words k → a ≡ b
same_inline a b words k has_a has_b =
    let long : length a ≡ length b = sym has_a.head.1.0 ∙ has_b.head.1.0 in
    let size = 16 * inline_units (length a) - 4 in
    let rest : filled size 0 a ≡ filled size 0 b =
    sym has_a.rest ∙ ap (λ n. drop 4 (units words k (inline_units n))) long ∙ has_b.rest ∙ ap (λ n. filled (16 * inline_units n - 4) 0 b) (sym long) in
    sym (take_at a (replicate (size - length a) 0) (length a) refl)
    ∙ ap (take (length a)) rest
    ∙ take_at b (replicate (size - length b) 0) (length a) (sym long)

-- data segments are no inline segment
apart : (sges : List Sge) (bytes words : List ℕ) (k : ℕ) → AllByRecursion IsShort sges → HasSegments sges words k → HasInline bytes words k → length sges ≡ inline_units (length bytes) → ⊥
apart sges bytes words k short has inline long =
    let plain = segments_plain sges words k short has k (omega arith) (omega arith) in
    both_ways (begins_inline (unit words k)) plain (ap (λ n. n == 1) inline.head.0)

same_body : (o : Opcode) (a b : SentBody) (words : List ℕ) (k : ℕ) → MayCarry o a → MayCarry o b → HasBody a words k → HasBody b words k → body_units a ≡ body_units b → a ≡ b
same_body o (Sges a) (Sges b) words k carried_a carried_b has_a has_b size = ap Sges (same_sges a b words k has_a has_b size)
same_body o (Sges a) (Inline b) words k carried_a carried_b has_a has_b size = absurd (apart a b words k carried_a.1 has_a has_b size)
same_body o (Inline a) (Sges b) words k carried_a carried_b has_a has_b size = absurd (apart b a words k carried_b.1 has_b has_a (sym size))
same_body o (Inline a) (Inline b) words k carried_a carried_b has_a has_b size = ap Inline (same_inline a b words k has_a has_b)

-- the whole

abbrev make_sent : Op → Bool → Bool → Bool → SentBody → ℕ → ℕ → Sent
make_sent op wanted solicited fence body index qpn = record { op = op; wanted = wanted; solicited = solicited; fence = fence; body = body; index = index; qpn = qpn }

pub one_value : (s t : Sent) (w : SendWords) → IsSend s w → IsSend t w → s ≡ t
one_value s t w is_s is_t =
    let a = is_s.control in
    let b = is_t.control in
    let opcode = same_opcode (opcode_of s.op) (opcode_of t.op) (sym a.1.1.0 ∙ b.1.1.0) in
    let flags : flags_of s.wanted s.solicited s.fence ≡ flags_of t.wanted t.solicited t.fence = sym a.1.1.1.1.1.1.1.0 ∙ b.1.1.1.1.1.1.1.0 in
    let size : units_of s ≡ units_of t = sym a.1.1.1.1.0 ∙ b.1.1.1.1.0 in
    let first : fixed_units (opcode_of s.op) ≡ fixed_units (opcode_of t.op) = ap fixed_units opcode in
    let op = same_op s.op t.op w.words is_s.operation is_t.operation opcode (sym a.1.1.1.1.1.1.1.1.0 ∙ b.1.1.1.1.1.1.1.1.0) in
    let body = same_body (opcode_of s.op) s.body t.body w.words (fixed_units (opcode_of s.op)) is_s.carried (rw opcode is_t.carried) is_s.body (rw opcode is_t.body) (omega (arith, size, first)) in
    let wanted = sym (wanted_is s.wanted s.solicited s.fence) ∙ ap (has_flag 0x08) flags ∙ wanted_is t.wanted t.solicited t.fence in
    let solicited = sym (solicited_is s.wanted s.solicited s.fence) ∙ ap (has_flag 0x02) flags ∙ solicited_is t.wanted t.solicited t.fence in
    let fence = sym (fence_is s.wanted s.solicited s.fence) ∙ ap (has_flag 0x80) flags ∙ fence_is t.wanted t.solicited t.fence in
    ap (λ (o : Op). make_sent o s.wanted s.solicited s.fence s.body s.index s.qpn) op
    ∙ ap (λ (f : Bool). make_sent t.op f s.solicited s.fence s.body s.index s.qpn) wanted
    ∙ ap (λ (f : Bool). make_sent t.op t.wanted f s.fence s.body s.index s.qpn) solicited
    ∙ ap (λ (f : Bool). make_sent t.op t.wanted t.solicited f s.body s.index s.qpn) fence
    ∙ ap (λ (d : SentBody). make_sent t.op t.wanted t.solicited t.fence d s.index s.qpn) body
    ∙ ap (λ n. make_sent t.op t.wanted t.solicited t.fence t.body n s.qpn) (sym a.1.0 ∙ b.1.0)
    ∙ ap (λ n. make_sent t.op t.wanted t.solicited t.fence t.body t.index n) (sym a.1.1.1.0 ∙ b.1.1.1.0)

-- a reader that finds only what the words spell, and refuses by the rules, finds what they spell
pub only : (result : Result Sent BadEntry) (s : Sent) (w : SendWords) → IfOk result (λ t. IsSend t w) → RefusesBy result (send_rules w) → IsSend s w → result ≡ Ok s
only (Ok t) s w found refused is = ap Ok (one_value t s w found is)
only (Err fault) s w found refused is =
    let none = accepted s w is in
    cc
