use Rattle.std.proofs.Common.{ℕ, refl, sym, ap, ◌∙◌, List, [], ◌∷◌}
use Rattle.prm_fields.specs.Bits.{field_value}
use Rattle.cqe_format.proofs.LastWord.{opcode_field}
use Rattle.cqe_format.proofs.last_word.opcode_in.Goals as goal

pub returns-clause-opcode : goal.returns-clause-opcode
returns-clause-opcode c =
    c.get.ensures.value ∙ (ap (λ (bytes : List ℕ). field_value bytes 504 4) c.entry_bytes.ensures ∙ opcode_field c.args.last (0 ∷ 0 ∷ 0 ∷ 0 ∷ 0 ∷ 0 ∷ 0 ∷ c.args.last ∷ []) refl refl)

pub returns-clause-field : goal.returns-clause-field
returns-clause-field c words eight is = opcode_field c.args.last words eight is ∙ sym (returns-clause-opcode c)
