-- An entry that spells a request breaks no rule.
use Rattle.std.proofs.Common.{◌≡◌, ℕ, zero, suc, ◌+◌, ◌-◌, ◌*◌, ◌<◌, ◌≤◌, ◌==◌, nat_le, nat_lt, Bool, true, false, not, ◌&&◌, ◌||◌, List, [], ◌∷◌, length, drop, replicate, Option, Some, None, is_some, refl, sym, ap, ◌∙◌, ⊎_elim, subst, arith}
use Rattle.std.specs.Bool.{IsTrue}
use Rattle.std.specs.List.{AllByRecursion, list_all}
use Rattle.std.proofs.lemmas.Bool.{and_from, and_left, and_right, cases_eq, cases_lt, eq-eqb, le-leb, lt-ltb, le-ltb, ne_eqb}
use Rattle.std.proofs.lemmas.List.{drop_at, drop-drop}
use Rattle.prm_fields.specs.Bits.{field_value}
use Rattle.prm_fields.specs.Refusal.{first_refusal}
use Rattle.prm_fields.specs.Spelling.{Spells}
use Rattle.prm_fields.specs.declared.layout.LayoutName.TheVariants.{DataUnit}
use Rattle.prm_fields.proofs.Values.{field_value-add}
use Rattle.verbs_types.specs.declared.request.Op.{Op}
use Rattle.verbs_types.specs.declared.request.Op.TheVariants.{Nop as NopOp, Send as SendOp, SendImm as SendImmOp, Write, WriteImm, Read, Cas, Faa}
use Rattle.verbs_types.specs.declared.request.Sge.{Sge}
use Rattle.work_entries.specs.declared.fault.BadEntry.{BadEntry}
use Rattle.work_entries.specs.declared.fault.EntryRule.TheVariants.{Opcode as OpcodeRule, Size, Reserved}
use Rattle.work_entries.specs.declared.opcode.Opcode.{Opcode}
use Rattle.work_entries.specs.declared.opcode.Opcode.TheVariants.{Nop, RdmaWrite, RdmaWriteImm, Send, SendImm, RdmaRead, AtomicCs, AtomicFa}
use Rattle.work_entries.specs.declared.sent.Sent.{Sent}
use Rattle.work_entries.specs.declared.sent.SentBody.{SentBody}
use Rattle.work_entries.specs.declared.sent.SentBody.TheVariants.{Sges, Inline}
use Rattle.work_entries.specs.declared.units.SendWords.{SendWords}
use Rattle.work_entries.specs.Opcode.{opcode_from, opcode_of, fixed_units, has_immediate, may_inline, most_data}
use Rattle.work_entries.specs.Unit.{unit, units, is_clear_unit, blocks_of}
use Rattle.work_entries.specs.Control.{flags_at, flags_of, modifier_at, opcode_at, units_at}
use Rattle.work_entries.specs.Operation.{HasOperation, immediate_of}
use Rattle.work_entries.specs.Body.{HasBody, HasInline, HasSegments, IsShort, MayCarry, begins_inline, body_units, inline_units, segment_values}
use Rattle.work_entries.specs.Send.{IsSend, units_of}
use Rattle.work_entries.specs.Rules.{at_unit, body_rules, control_rules, has_inline_size, has_known_flags, has_size, inline_rules, is_inline, is_plain, operation_rules, rest_of_control, segment_rules, send_rules}
use Rattle.work_entries.proofs.Judging.{none_broken}
use Rattle.work_entries.proofs.Reading.{at_unused, opcode_from-number}

-- the data fits what the opcode allows

inline_allowed : (o : Opcode) → IsTrue (may_inline o) → most_data o ≡ 8
inline_allowed Nop may = cc
inline_allowed RdmaWrite may = refl
inline_allowed RdmaWriteImm may = refl
inline_allowed Send may = refl
inline_allowed SendImm may = refl
inline_allowed RdmaRead may = refl
inline_allowed AtomicCs may = refl
inline_allowed AtomicFa may = refl

carried_fits : (o : Opcode) (body : SentBody) → MayCarry o body → body_units body ≤ most_data o
carried_fits o (Sges sges) carried = carried.0
carried_fits o (Inline bytes) carried = omega (arith, inline_allowed o carried.0, carried.1)

-- the control segment

known_flags : (wanted solicited fence : Bool) → has_known_flags (flags_of wanted solicited fence) ≡ true
known_flags true true true = refl
known_flags true true false = refl
known_flags true false true = refl
known_flags true false false = refl
known_flags false true true = refl
known_flags false true false = refl
known_flags false false true = refl
known_flags false false false = refl

immediate_fits : (op : Op) → (has_immediate (opcode_of op) || (immediate_of op == 0)) ≡ true
immediate_fits NopOp = refl
immediate_fits SendOp = refl
immediate_fits (SendImmOp imm) = refl
immediate_fits (Write raddr rkey) = refl
immediate_fits (WriteImm raddr rkey imm) = refl
immediate_fits (Read raddr rkey) = refl
immediate_fits (Cas raddr rkey compare swap) = refl
immediate_fits (Faa raddr rkey add) = refl

module _ (s : Sent) (w : SendWords) (is : IsSend s w) where
  opcode_is : opcode_at (unit w.words 0) ≡ Some (opcode_of s.op)
  opcode_is = ap opcode_from is.control.1.1.0 ∙ opcode_from-number (opcode_of s.op)

  units_are : units_at (unit w.words 0) ≡ units_of s
  units_are = is.control.1.1.1.1.0

  size_kept : has_size (opcode_of s.op) (units_at (unit w.words 0)) w.blocks ≡ true
  size_kept =
      let least = fixed_units (opcode_of s.op) in
      let most = least + most_data (opcode_of s.op) in
      let fits = carried_fits (opcode_of s.op) s.body is.carried in
      ap (λ n. has_size (opcode_of s.op) n w.blocks) units_are
      ∙ and_from (nat_le least (units_of s) && nat_le (units_of s) most) (w.blocks == blocks_of (units_of s))
      (and_from (nat_le least (units_of s)) (nat_le (units_of s) most) (le-leb least (units_of s) (omega arith)) (le-leb (units_of s) most (omega (arith, fits))))
      (eq-eqb w.blocks (blocks_of (units_of s)) is.blocks)

  flags_kept : has_known_flags (flags_at (unit w.words 0)) ≡ true
  flags_kept = ap has_known_flags is.control.1.1.1.1.1.1.1.0 ∙ known_flags s.wanted s.solicited s.fence

  plain_kept : is_plain (opcode_of s.op) (unit w.words 0) ≡ true
  plain_kept =
      let immediate = ap (λ n. has_immediate (opcode_of s.op) || (n == 0)) is.control.1.1.1.1.1.1.1.1.0 ∙ immediate_fits s.op in
      rw (is.control.1.1.1.1.1.1.0, is.control.1.1.1.1.1.0, immediate) refl

  control_kept : first_refusal (control_rules (unit w.words 0) w.blocks) ≡ None
  control_kept =
      let judged : Option Opcode → Option BadEntry =
      λ found. first_refusal (at_unit 0 OpcodeRule ((modifier_at (unit w.words 0) == 0) && is_some found) ∷ rest_of_control found (unit w.words 0) w.blocks) in
      ap judged opcode_is ∙ rw (is.control.0, size_kept, flags_kept, plain_kept) refl

-- the segments of the operation
operation_kept : (op : Op) (words : List ℕ) → HasOperation op words → first_refusal (operation_rules (opcode_of op) words) ≡ None
operation_kept NopOp words has = refl
operation_kept SendOp words has = refl
operation_kept (SendImmOp imm) words has = refl
operation_kept (Write raddr rkey) words has = rw has.1.1.0 refl
operation_kept (WriteImm raddr rkey imm) words has = rw has.1.1.0 refl
operation_kept (Read raddr rkey) words has = rw has.1.1.0 refl
operation_kept (Cas raddr rkey compare swap) words has = rw (has.0.1.1.0) refl
operation_kept (Faa raddr rkey add) words has = rw (has.0.1.1.0, has.1.1.0) refl

-- data segments

-- a short segment leaves the top bit of its unit 0
plain_unit : (bytes : List ℕ) (sge : Sge) → IsShort sge → Spells DataUnit (segment_values sge) bytes → begins_inline bytes ≡ false
plain_unit bytes sge short has =
    ne_eqb (field_value bytes 0 1) 1 (λ top. absurd (omega (arith, top, field_value-add bytes 0 1 31, has.0)))

pub segments_plain : (sges : List Sge) (words : List ℕ) (k : ℕ) → AllByRecursion IsShort sges → HasSegments sges words k → (j : ℕ) → k ≤ j → j < k + length sges → begins_inline (unit words j) ≡ false
segments_plain [] words k short has j low high = absurd (omega arith)
segments_plain (sge ∷ sges) words k short has j low high =
    ⊎_elim
    (λ (here : k ≡ j). subst (λ (i : ℕ). begins_inline (unit words i) ≡ false) here (plain_unit (unit words k) sge short.0 has.0))
    (λ (apart : k ≡ j → ⊥). segments_plain sges words (suc k) short.1 has.1 j (omega arith) (omega arith))
    (cases_eq k j)

-- inline segments

zeros_clear : (n : ℕ) → list_all (λ b. b == 0) (replicate n 0) ≡ true
zeros_clear zero = refl
zeros_clear (suc n) = zeros_clear n

-- data segments break no rule, and are not taken for an inline one
module _ (o : Opcode) (sges : List Sge) (words : List ℕ) (short : AllByRecursion IsShort sges) (has : HasSegments sges words (fixed_units o)) where
  not_inline : is_inline o words (fixed_units o + length sges) ≡ false
  not_inline =
      let first = fixed_units o in
      let end = first + length sges in
      ⊎_elim
      (λ (some : first < end).
      and_right (may_inline o && nat_lt first end) (begins_inline (unit words first)) (segments_plain sges words first short has first (omega arith) some))
      (λ (none : end ≤ first).
      and_left (may_inline o && nat_lt first end) (begins_inline (unit words first)) (and_right (may_inline o) (nat_lt first end) (le-ltb first end none)))
      (cases_lt first end)

  segments_kept : first_refusal (segment_rules words (fixed_units o) (length sges)) ≡ None
  segments_kept =
      none_broken Size (λ (j : ℕ). not (begins_inline (unit words j))) (fixed_units o) (length sges)
      (λ j low high. ap not (segments_plain sges words (fixed_units o) short has j low high))

-- an inline segment breaks no rule, and is taken for one
module _ (o : Opcode) (bytes words : List ℕ) (k : ℕ) (most : length bytes ≤ 60) (has : HasInline bytes words k) where
  count : ℕ
  count = inline_units (length bytes)

  inline_filled : list_all (λ b. b == 0) (drop (4 + length bytes) (units words k count)) ≡ true
  unfolding count
  inline_filled =
      let left = replicate (16 * count - 4 - length bytes) 0 in
      let split : drop (4 + length bytes) (units words k count) ≡ left =
      sym (drop-drop (length bytes) 4 (units words k count)) ∙ ap (drop (length bytes)) has.rest ∙ drop_at bytes left (length bytes) refl in
      ap (list_all (λ b. b == 0)) split ∙ zeros_clear (16 * count - 4 - length bytes)

  inline_sized : has_inline_size (length bytes) count ≡ true
  unfolding count
  inline_sized = and_from (nat_le (length bytes) 60) (inline_units (length bytes) == count) (le-leb (length bytes) 60 most) (eq-eqb (inline_units (length bytes)) count refl)

  inline_kept : first_refusal (inline_rules words k (inline_units (length bytes))) ≡ None
  unfolding count
  inline_kept = rw (has.head.1.0, inline_sized, inline_filled) refl

body_kept : (o : Opcode) (body : SentBody) (words : List ℕ) → MayCarry o body → HasBody body words (fixed_units o) → first_refusal (body_rules o words (fixed_units o + body_units body)) ≡ None
body_kept o (Sges sges) words carried has =
    let count : fixed_units o + length sges - fixed_units o ≡ length sges = omega arith in
    rw (not_inline o sges words carried.1 has, count) (segments_kept o sges words carried.1 has)
body_kept o (Inline bytes) words carried has =
    let first = fixed_units o in
    let end = first + inline_units (length bytes) in
    let inline : is_inline o words end ≡ true =
    and_from (may_inline o && nat_lt first end) (begins_inline (unit words first))
    (and_from (may_inline o) (nat_lt first end) carried.0 (lt-ltb first end (omega arith)))
    (ap (λ n. n == 1) has.head.0) in
    let count : end - first ≡ inline_units (length bytes) = omega arith in
    rw (inline, count) (inline_kept o bytes words first carried.1 has)

-- the whole
pub accepted : (s : Sent) (w : SendWords) → IsSend s w → first_refusal (send_rules w) ≡ None
accepted s w is =
    at_unused w (opcode_of s.op) (units_of s) (opcode_is s w is) (units_are s w is) (control_kept s w is)
    (operation_kept s.op w.words is.operation)
    (body_kept (opcode_of s.op) s.body w.words is.carried is.body)
    ∙ none_broken Reserved (is_clear_unit w.words) (units_of s) (4 * w.blocks - units_of s) (λ j low high. is.unused j low (omega arith))
