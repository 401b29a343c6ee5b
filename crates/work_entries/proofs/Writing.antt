-- An entry whose parts were written one after another.
use Rattle.std.proofs.Common.{◌≡◌, ℕ, ◌+◌, ◌-◌, ◌*◌, ◌≤◌, ◌==◌, List, drop, slice_index, ap, ◌∙◌, inr, arith}
use Rattle.std.proofs.lemmas.Bool.{and_from, eq-eqb}
use Rattle.prm_fields.specs.Spelling.{Spells}
use Rattle.prm_fields.specs.declared.layout.LayoutName.TheVariants.{Ctrl}
use Rattle.verbs_types.specs.declared.request.Op.{Op}
use Rattle.verbs_types.specs.declared.request.Op.TheVariants.{Nop as NopOp, Send as SendOp, SendImm as SendImmOp, Write, WriteImm, Read, Cas, Faa}
use Rattle.work_entries.specs.declared.opcode.Opcode.{Opcode}
use Rattle.work_entries.specs.declared.opcode.Opcode.TheVariants.{Nop, RdmaWrite, RdmaWriteImm, Send, SendImm, RdmaRead, AtomicCs, AtomicFa}
use Rattle.work_entries.specs.declared.sent.Sent.{Sent}
use Rattle.work_entries.specs.declared.sent.SentBody.{SentBody}
use Rattle.work_entries.specs.declared.sent.SentBody.TheVariants.{Sges, Inline}
use Rattle.work_entries.specs.declared.units.SendWords.{SendWords}
use Rattle.work_entries.specs.Opcode.{opcode_of, fixed_units}
use Rattle.work_entries.specs.Unit.{KeepsOtherWords, unit, blocks_of}
use Rattle.work_entries.specs.Control.{control_values}
use Rattle.work_entries.specs.Operation.{HasOperation}
use Rattle.work_entries.specs.Body.{HasBody, MayCarry, body_units, inline_units}
use Rattle.work_entries.specs.Send.{IsSend, control_of, units_of}
use Rattle.work_entries.proofs.Words.{unit_kept, units_same}
use Rattle.work_entries.proofs.DataSegments.{segments_same}

operation_same : (op : Op) (old new : List ℕ) → unit new 1 ≡ unit old 1 → unit new 2 ≡ unit old 2 → HasOperation op old → HasOperation op new
operation_same NopOp old new first second has = tt
operation_same SendOp old new first second has = tt
operation_same (SendImmOp imm) old new first second has = tt
operation_same (Write raddr rkey) old new first second has = rw first has
operation_same (WriteImm raddr rkey imm) old new first second has = rw first has
operation_same (Read raddr rkey) old new first second has = rw first has
operation_same (Cas raddr rkey compare swap) old new first second has = rw (first, second) has
operation_same (Faa raddr rkey add) old new first second has = rw (first, second) has

body_same : (body : SentBody) (old new : List ℕ) (k : ℕ) → ((j : ℕ) → k ≤ j → unit new j ≡ unit old j) → HasBody body old k → HasBody body new k
body_same (Sges sges) old new k same has = segments_same sges old new k (λ j low high. same j low) has
body_same (Inline bytes) old new k same has = record {
  head = rw (same k (omega arith)) has.head;
  rest = ap (drop 4) (units_same old new k (inline_units _) (λ j low high. same j low)) ∙ has.rest;
}

one_fixed : (o : Opcode) → 1 ≤ fixed_units o
one_fixed Nop = omega arith
one_fixed RdmaWrite = omega arith
one_fixed RdmaWriteImm = omega arith
one_fixed Send = omega arith
one_fixed SendImm = omega arith
one_fixed RdmaRead = omega arith
one_fixed AtomicCs = omega arith
one_fixed AtomicFa = omega arith

-- zeros, into which the data was written, then the operation's segments, and last the control segment
module _ (s : Sent) (zeros a b : List ℕ) (w : SendWords) (clear : (k : ℕ) → slice_index zeros k ≡ 0)
    (after_body : KeepsOtherWords zeros a (2 * fixed_units (opcode_of s.op)) (2 * body_units s.body))
    (after_operation : KeepsOtherWords a b 2 (2 * (fixed_units (opcode_of s.op) - 1)))
    (after_control : KeepsOtherWords b w.words 0 2) where
  behind : (j : ℕ) → fixed_units (opcode_of s.op) ≤ j → unit w.words j ≡ unit a j
  behind j low =
      let some = one_fixed (opcode_of s.op) in
      unit_kept b w.words 0 2 j after_control (inr (omega arith))
      ∙ unit_kept a b 2 (2 * (fixed_units (opcode_of s.op) - 1)) j after_operation (inr (omega arith))

  left : (k : ℕ) → 2 * units_of s ≤ k → slice_index w.words k ≡ 0
  left k high =
      let some = one_fixed (opcode_of s.op) in
      after_control.after k (omega arith) ∙ after_operation.after k (omega arith) ∙ after_body.after k (omega arith) ∙ clear k

  pub spelled :
      w.blocks ≡ blocks_of (units_of s)
      → Spells Ctrl (control_values (control_of s)) (unit w.words 0)
      → HasOperation s.op b
      → MayCarry (opcode_of s.op) s.body
      → HasBody s.body a (fixed_units (opcode_of s.op))
      → IsSend s w
  spelled blocks control operation carried body = record {
    blocks = blocks;
    control = control;
    operation = operation_same s.op b w.words (unit_kept b w.words 0 2 1 after_control (inr (omega arith))) (unit_kept b w.words 0 2 2 after_control (inr (omega arith))) operation;
    carried = carried;
    body = body_same s.body a w.words (fixed_units (opcode_of s.op)) behind body;
    unused = λ k low high.
        and_from (slice_index w.words (2 * k) == 0) (slice_index w.words (2 * k + 1) == 0)
        (eq-eqb (slice_index w.words (2 * k)) 0 (left (2 * k) (omega arith)))
        (eq-eqb (slice_index w.words (2 * k + 1)) 0 (left (2 * k + 1) (omega arith)));
  }
