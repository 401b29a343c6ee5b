use Rattle.std.proofs.Common.{ℕ, ◌/◌, ◌%◌, ◌==◌, refl, sym, ap, ◌∙◌, [], ◌∷◌}
use Rattle.work_entries.specs.Control.{flags_at}
use Rattle.work_entries.proofs.FrontWords.{wanted_field}
use Rattle.work_entries.proofs.front.is_wanted.Goals as goal

pub returns-clause-wanted : goal.returns-clause-wanted
returns-clause-wanted c =
    ap (λ (n : ℕ). n / 8 % 2 == 1) (c.get-flags.ensures.value ∙ ap flags_at c.unit_at.ensures) ∙ wanted_field c.args.second (0 ∷ c.args.second ∷ []) refl

pub returns-clause-field : goal.returns-clause-field
returns-clause-field c words is = wanted_field c.args.second words is ∙ sym (returns-clause-wanted c)
