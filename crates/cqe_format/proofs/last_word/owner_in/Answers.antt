use Rattle.std.proofs.Common.{ℕ, refl, sym, ap, ◌∙◌, List, [], ◌∷◌}
use Rattle.prm_fields.specs.Bits.{field_value}
use Rattle.cqe_format.proofs.LastWord.{owner_field}
use Rattle.cqe_format.proofs.last_word.owner_in.Goals as goal

pub returns-clause-owner : goal.returns-clause-owner
returns-clause-owner c =
    c.get.ensures.value ∙ (ap (λ (bytes : List ℕ). field_value bytes 511 1) c.entry_bytes.ensures ∙ owner_field c.args.last (0 ∷ 0 ∷ 0 ∷ 0 ∷ 0 ∷ 0 ∷ 0 ∷ c.args.last ∷ []) refl refl)

pub returns-clause-field : goal.returns-clause-field
returns-clause-field c words eight is = owner_field c.args.last words eight is ∙ sym (returns-clause-owner c)
