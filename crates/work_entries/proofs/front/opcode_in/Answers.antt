use Rattle.std.proofs.Common.{refl, sym, ap, ◌∙◌, ℕ, List, [], ◌∷◌}
use Rattle.prm_fields.specs.Bits.{field_value}
use Rattle.work_entries.proofs.FrontWords.{opcode_field}
use Rattle.work_entries.proofs.front.opcode_in.Goals as goal

pub returns-clause-opcode : goal.returns-clause-opcode
returns-clause-opcode c = c.get.ensures.value ∙ (ap (λ (bytes : List ℕ). field_value bytes 24 8) c.unit_at.ensures ∙ opcode_field c.args.first (c.args.first ∷ 0 ∷ []) refl)

pub returns-clause-field : goal.returns-clause-field
returns-clause-field c words is = opcode_field c.args.first words is ∙ sym (returns-clause-opcode c)
