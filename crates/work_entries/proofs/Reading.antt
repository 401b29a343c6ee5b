-- What the parts of a send entry, each found in turn, say of the whole.
use Rattle.std.proofs.Common.{◌≡◌, ℕ, ◌+◌, ◌-◌, ◌*◌, ◌<◌, ◌==◌, nat_le, Bool, true, false, not, ◌&&◌, cond, bit_and, List, ◌++◌, Option, Some, None, refl, sym, ap, ◌∙◌, ⊎_elim, arith}
use Rattle.std.proofs.lemmas.Bool.{agree_below_at, and_cases, and_parts, both_ways, eqb-true, not-false}
use Rattle.prm_fields.specs.Refusal.{Rule, first_refusal}
use Rattle.prm_fields.proofs.Values.{field_value-lt}
use Rattle.verbs_types.specs.declared.request.Op.{Op}
use Rattle.work_entries.specs.declared.control.Control.{Control}
use Rattle.work_entries.specs.declared.fault.BadEntry.{BadEntry}
use Rattle.work_entries.specs.declared.fault.EntryRule.TheVariants.{Reserved}
use Rattle.work_entries.specs.declared.opcode.Opcode.{Opcode}
use Rattle.work_entries.specs.declared.opcode.Opcode.TheVariants.{Nop, RdmaWrite, RdmaWriteImm, Send, SendImm, RdmaRead, AtomicCs, AtomicFa}
use Rattle.work_entries.specs.declared.sent.SentBody.{SentBody}
use Rattle.work_entries.specs.declared.units.SendWords.{SendWords}
use Rattle.work_entries.specs.Opcode.{opcode_from, opcode_number, opcode_of, fixed_units, has_immediate, most_data}
use Rattle.work_entries.specs.Unit.{unit, is_clear_unit, blocks_of}
use Rattle.work_entries.specs.Control.{flags_of, opcode_at, units_at}
use Rattle.work_entries.specs.Send.{IsSend}
use Rattle.work_entries.specs.Operation.{immediate_of}
use Rattle.work_entries.specs.Body.{body_units}
use Rattle.work_entries.specs.Rules.{body_rules, control_rules, has_known_flags, operation_rules, rules_behind, send_rules, unused_rules}
use Rattle.work_entries.specs.Found.{HasControl, IsBodyOf, IsOperationOf}
use Rattle.work_entries.proofs.Judging.{each_kept, first_refusal-append_none, first_refusal-append_some}

-- an opcode is found by its number
pub opcode_from-number : (o : Opcode) → opcode_from (opcode_number o) ≡ Some o
opcode_from-number Nop = refl
opcode_from-number RdmaWrite = refl
opcode_from-number RdmaWriteImm = refl
opcode_from-number Send = refl
opcode_from-number SendImm = refl
opcode_from-number RdmaRead = refl
opcode_from-number AtomicCs = refl
opcode_from-number AtomicFa = refl

-- a control segment is judged first
pub at_control : (w : SendWords) (fault : BadEntry) → first_refusal (control_rules (unit w.words 0) w.blocks) ≡ Some fault → first_refusal (send_rules w) ≡ Some fault
unfolding send_rules
at_control w fault broken = first_refusal-append_some (control_rules (unit w.words 0) w.blocks) (rules_behind (opcode_at (unit w.words 0)) w (units_at (unit w.words 0))) fault broken

-- behind a control segment that is not refused
module _ (w : SendWords) (o : Opcode) (units : ℕ) (opcode_is : opcode_at (unit w.words 0) ≡ Some o) (units_are : units_at (unit w.words 0) ≡ units)
    (kept : first_refusal (control_rules (unit w.words 0) w.blocks) ≡ None) where
  operation : List (Rule BadEntry)
  operation = operation_rules o w.words

  body : List (Rule BadEntry)
  body = body_rules o w.words units

  unused : List (Rule BadEntry)
  unused = unused_rules w.words units (4 * w.blocks - units)

  behind : first_refusal (send_rules w) ≡ first_refusal (operation ++ body ++ unused)
  unfolding send_rules operation body unused
  behind =
      first_refusal-append_none (control_rules (unit w.words 0) w.blocks) (rules_behind (opcode_at (unit w.words 0)) w (units_at (unit w.words 0))) kept
      ∙ ap (λ (found : Option Opcode). first_refusal (rules_behind found w (units_at (unit w.words 0)))) opcode_is
      ∙ ap (λ n. first_refusal (rules_behind (Some o) w n)) units_are

  pub at_operation : (fault : BadEntry) → first_refusal (operation_rules o w.words) ≡ Some fault → first_refusal (send_rules w) ≡ Some fault
  unfolding operation
  at_operation fault broken = behind ∙ first_refusal-append_some (operation ++ body) unused fault (first_refusal-append_some operation body fault broken)

  pub at_body : first_refusal (operation_rules o w.words) ≡ None → (fault : BadEntry) → first_refusal (body_rules o w.words units) ≡ Some fault → first_refusal (send_rules w) ≡ Some fault
  unfolding operation body
  at_body first fault broken = behind ∙ first_refusal-append_some (operation ++ body) unused fault (first_refusal-append_none operation body first ∙ broken)

  pub at_unused : first_refusal (operation_rules o w.words) ≡ None → first_refusal (body_rules o w.words units) ≡ None
      → first_refusal (send_rules w) ≡ first_refusal (unused_rules w.words units (4 * w.blocks - units))
  unfolding operation body unused
  at_unused first second = behind ∙ first_refusal-append_none (operation ++ body) unused (first_refusal-append_none operation body first ∙ second)

-- the opcode and the units of a control segment
pub opcode_seen : (w : SendWords) (c : Control) → HasControl c w → opcode_at (unit w.words 0) ≡ Some c.opcode
opcode_seen w c has = ap opcode_from has.spelled.1.1.0 ∙ opcode_from-number c.opcode

pub units_seen : (w : SendWords) (c : Control) → HasControl c w → units_at (unit w.words 0) ≡ c.units
units_seen w c has = has.spelled.1.1.1.1.0

abbrev is_set : ℕ → ℕ → Bool
is_set flags flag = not (bit_and flags flag == 0)

abbrev again : ℕ → ℕ
again flags = flags_of (is_set flags 0x08) (is_set flags 0x02) (is_set flags 0x80)

-- known flags are those that are set
flags_read : (flags : ℕ) → flags < 256 → has_known_flags flags ≡ true → again flags ≡ flags
flags_read flags small known =
    let wrong : ℕ → Bool = λ n. has_known_flags n && not (again n == n) in
    let none : wrong flags ≡ false = agree_below_at wrong (λ _. false) 256 flags refl small in
    ⊎_elim
    (λ (unknown : has_known_flags flags ≡ false). absurd (both_ways (has_known_flags flags) unknown known))
    (λ (right : not (again flags == flags) ≡ false). eqb-true (again flags) flags (not-false (again flags == flags) right))
    (and_cases (has_known_flags flags) (not (again flags == flags)) none)

-- an immediate that an opcode without one does not have
immediate_kept : (has : Bool) (imm : ℕ) → (has ≡ false → imm ≡ 0) → cond has imm 0 ≡ imm
immediate_kept true imm none = refl
immediate_kept false imm none = sym (none refl)

-- the parts make the whole
pub whole : (w : SendWords) (c : Control) (op : Op) (body : SentBody) → HasControl c w → IsOperationOf c.opcode c.imm op w.words → IsBodyOf c.opcode c.units body w.words
    → first_refusal (unused_rules w.words c.units (4 * w.blocks - c.units)) ≡ None
    → IsSend (record { op = op; wanted = is_set c.flags 0x08; solicited = is_set c.flags 0x02; fence = is_set c.flags 0x80; body = body; index = c.index; qpn = c.qpn }) w
whole w c op body has found filled clear =
    let h = has.spelled in
    let units : fixed_units (opcode_of op) + body_units body ≡ c.units = ap (λ o. fixed_units o + body_units body) found.named ∙ filled.size in
    let small : c.flags < 256 = rw h.1.1.1.1.1.1.1.0 at (field_value-lt (unit w.words 0) 88 8) in
    let immediate : immediate_of op ≡ c.imm = found.immediate ∙ immediate_kept (has_immediate c.opcode) c.imm has.immediate in
    let least = nat_le (fixed_units c.opcode) c.units && nat_le c.units (fixed_units c.opcode + most_data c.opcode) in
    let blocks : w.blocks ≡ blocks_of c.units = eqb-true w.blocks (blocks_of c.units) ((and_parts least (w.blocks == blocks_of c.units) has.size).1) in
    record {
      blocks = blocks ∙ ap blocks_of (sym units);
      control = (
        h.0,
        (
          h.1.0,
          (
            h.1.1.0 ∙ ap opcode_number (sym found.named),
            (
              h.1.1.1.0,
              (
                h.1.1.1.1.0 ∙ sym units,
                (
                  h.1.1.1.1.1.0,
                  (
                    h.1.1.1.1.1.1.0,
                    (h.1.1.1.1.1.1.1.0 ∙ sym (flags_read c.flags small has.flags), (h.1.1.1.1.1.1.1.1.0 ∙ sym immediate, tt)),
                  ),
                ),
              ),
            ),
          ),
        ),
      );
      operation = found.spelled;
      carried = rw found.named filled.carried;
      body = rw found.named filled.spelled;
      unused = λ k low high. each_kept Reserved (is_clear_unit w.words) c.units (4 * w.blocks - c.units) clear k (omega arith) (omega arith);
    }
