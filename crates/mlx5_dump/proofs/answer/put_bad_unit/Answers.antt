use Rattle.std.proofs.Common.{◌≡◌, ◌++◌, ℕ, List, codes, ap, ◌∙◌, append_assoc}
use Rattle.mlx5_dump.specs.Answer.{numbered, refused, rule_name, unit_words}
use Rattle.mlx5_dump.proofs.Kept.{on_ok_grown}
use Rattle.mlx5_dump.proofs.answer.put_bad_unit.Goals as goal

two_more : (a x s t : List ℕ) → a ++ x ++ s ++ t ≡ a ++ (x ++ s ++ t)
two_more a x s t = ap (λ l. l ++ t) (append_assoc a x s) ∙ append_assoc a (x ++ s) t

pub returns : goal.returns
returns c =
    let old = c.args.text.now.items in
    let unit = numbered (codes "unit") c.args.bad.unit in
    let name = rule_name c.args.bad.why in
    let grown : c.put_refusal.new.text.items ++ codes " " ++ name ≡ old ++ refused (unit_words c.args.bad) =
    ap (λ l. l ++ codes " " ++ name) c.in_ok-put_refusal.ensures ∙ two_more old (refused unit) (codes " ") name ∙ ap (λ l. old ++ l) (two_more (codes "refused ") unit (codes " ") name) in
    let last = c.as_bytes.ensures.value ∙ c.rule_text.ensures in
    let all = ap (λ l. l ++ c.as_bytes.result.now) c.in_ok-extend_from_slice.ensures.items ∙ ap (λ l. c.put_refusal.new.text.items ++ codes " " ++ l) last ∙ grown in
    on_ok_grown (λ new. new ≡ old ++ refused (unit_words c.args.bad)) c.extend_from_slice-2.result _ _ _ c.extend_from_slice-2.ensures.items all
