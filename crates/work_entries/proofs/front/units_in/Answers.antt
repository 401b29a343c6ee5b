use Rattle.std.proofs.Common.{ℕ, ◌%◌, ◌^◌, refl, sym, ap, ◌∙◌, [], ◌∷◌}
use Rattle.work_entries.specs.Control.{units_at}
use Rattle.work_entries.proofs.FrontWords.{units_field}
use Rattle.work_entries.proofs.front.units_in.Goals as goal

pub returns-clause-units : goal.returns-clause-units
returns-clause-units c =
    ap (λ (n : ℕ). n % 2 ^ 6) (c.get.ensures.value ∙ ap units_at c.unit_at.ensures) ∙ units_field c.args.first (c.args.first ∷ 0 ∷ []) refl

pub returns-clause-field : goal.returns-clause-field
returns-clause-field c words is = units_field c.args.first words is ∙ sym (returns-clause-units c)
