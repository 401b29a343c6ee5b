use Rattle.std.proofs.Common.{sym, ◌∙◌, subst, List, ℕ}
use Rattle.std.specs.Str.Parse.{ParsesUnsigned}
use Rattle.scenario_text.proofs.Numbers.{read_by_parse, digits_utf8}
use Rattle.scenario_text.proofs.lines.read_number.Goals as goal

pub returns-in-Ok : goal.returns-in-Ok
returns-in-Ok c =
    c.ok.ensures.value
    ∙ read_by_parse c.args.digits.now c.parse.result (sym c.is_digits.ensures ∙ c.if-not-is_digits.false) (sym c.has_leading_zero.ensures ∙ c.if-has_leading_zero.false)
    (subst (λ (t : List ℕ). ParsesUnsigned 64 10 t c.parse.result) c.in-Ok.ensures.cases.0 c.parse.ensures.value.0)

pub returns-in-Err : goal.returns-in-Err
returns-in-Err c = absurd (c.in-Err.ensures.cases.0 (digits_utf8 c.args.digits.now (sym c.is_digits.ensures ∙ c.if-not-is_digits.false)))
