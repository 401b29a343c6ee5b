-- Units that puts into 16 zeros have written.
use Rattle.std.proofs.Common.{◌≡◌, ℕ, List, [], ◌∷◌, replicate, true, refl, ◌∙◌}
use Rattle.prm_fields.specs.Bits.{field_value}
use Rattle.prm_fields.specs.Spelling.{Spells}
use Rattle.prm_fields.specs.declared.layout.LayoutName.TheVariants.{Ctrl, Raddr, Atomic, DataUnit}
use Rattle.prm_fields.proofs.Chains.{Put, put_of, Chain, all_hold, untouched, is_apart, field_value-zeros, zeros_read}
use Rattle.verbs_types.specs.declared.request.Sge.{Sge}
use Rattle.work_entries.specs.declared.control.Control.{Control}
use Rattle.work_entries.specs.Opcode.{opcode_number}
use Rattle.work_entries.specs.Control.{control_values}
use Rattle.work_entries.specs.Operation.{remote_values, operand_values}
use Rattle.work_entries.specs.Body.{segment_values}

-- a field that no put touches is 0
left : (ps : List Put) (new : List ℕ) → Chain ps (replicate 16 0) new → (bit width : ℕ) → is_apart bit width ps ≡ true → field_value new bit width ≡ 0
left ps new chain bit width apart =
    untouched ps (replicate 16 0) new chain bit width apart ∙ field_value-zeros (replicate 16 0) (zeros_read 16) bit width

abbrev pub control_puts : Control → List Put
control_puts c =
    put_of 8 16 c.index
    ∷ put_of 24 8 (opcode_number c.opcode)
    ∷ put_of 32 24 c.qpn
    ∷ put_of 56 8 c.units
    ∷ put_of 88 8 c.flags
    ∷ put_of 96 32 c.imm
    ∷ []

pub control_put : (c : Control) (new : List ℕ) → Chain (control_puts c) (replicate 16 0) new → Spells Ctrl (control_values c) new
control_put c new chain =
    let held = all_hold (control_puts c) (replicate 16 0) new chain refl in
    let none = left (control_puts c) new chain in (
      none 0 8 refl,
      (
        held.0,
        (
          held.1.0,
          (
            held.1.1.0,
            (held.1.1.1.0, (none 64 8 refl, (none 72 16 refl, (held.1.1.1.1.0, (held.1.1.1.1.1.0, tt))))),
          ),
        ),
      ),
    )

abbrev pub remote_puts : ℕ → ℕ → List Put
remote_puts addr key = put_of 0 64 addr ∷ put_of 64 32 key ∷ []

pub remote_put : (addr key : ℕ) (new : List ℕ) → Chain (remote_puts addr key) (replicate 16 0) new → Spells Raddr (remote_values addr key) new
remote_put addr key new chain =
    let held = all_hold (remote_puts addr key) (replicate 16 0) new chain refl in
    (held.0, (held.1.0, (left (remote_puts addr key) new chain 96 32 refl, tt)))

abbrev pub operand_puts : ℕ → ℕ → List Put
operand_puts swap_or_add compare = put_of 0 64 swap_or_add ∷ put_of 64 64 compare ∷ []

pub operand_put : (swap_or_add compare : ℕ) (new : List ℕ) → Chain (operand_puts swap_or_add compare) (replicate 16 0) new → Spells Atomic (operand_values swap_or_add compare) new
operand_put swap_or_add compare new chain = all_hold (operand_puts swap_or_add compare) (replicate 16 0) new chain refl

abbrev pub segment_puts : Sge → List Put
segment_puts sge = put_of 0 32 sge.len ∷ put_of 32 32 sge.key ∷ put_of 64 64 sge.addr ∷ []

pub segment_put : (sge : Sge) (new : List ℕ) → Chain (segment_puts sge) (replicate 16 0) new → Spells DataUnit (segment_values sge) new
segment_put sge new chain = all_hold (segment_puts sge) (replicate 16 0) new chain refl

abbrev pub head_puts : ℕ → List Put
head_puts bytes = put_of 0 1 1 ∷ put_of 1 31 bytes ∷ []
