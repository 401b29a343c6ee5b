use Rattle.std.proofs.Common.{◌==◌, Bor, List, ℕ, ap, sym, ◌∙◌, length, arith}
use Rattle.scenario_text.specs.Text.{split, Parting}
use Rattle.scenario_text.proofs.Dropping.{passed_none, passed_next, passed_end, passed_short, told_none}
use Rattle.scenario_text.proofs.parts.has_parts.Goals as goal

pub loop-passed-init : goal.loop-passed-init
loop-passed-init c = passed_none _ _ (ap (λ (p : Parting). p.left) c.of-left.ensures)

pub returns-then-is_none : goal.returns-then-is_none
returns-then-is_none c =
    passed_short (λ (b : Bor (List ℕ)). b.now) (split c.args.separator c.args.bytes.now) c.loop-passed.left.left c.next_part.new.self.left c.loop-passed.passed c.args.number c.next_part.result c.loop-passed.invariant c.next_part.ensures.next
    (told_none _ _ c.is_none.ensures ∙ c.if-is_none.true)
    (omega (arith, c.loop-passed-test.true))

pub loop-passed-preserved : goal.loop-passed-preserved
loop-passed-preserved c =
    passed_next (λ (b : Bor (List ℕ)). b.now) (split c.args.separator c.args.bytes.now) c.loop-passed.left.left c.next_part.new.self.left c.loop-passed.passed c.next_part.result c.loop-passed.invariant c.next_part.ensures.next
    (told_none _ _ c.is_none.ensures ∙ c.if-is_none.false)

pub returns : goal.returns
returns c =
    sym (told_none _ _ c.is_none-2.ensures)
    ∙ passed_end (λ (b : Bor (List ℕ)). b.now) (split c.args.separator c.args.bytes.now) c.loop-passed.left.left c.next_part-2.new.self.left c.loop-passed.passed c.next_part-2.result c.loop-passed.invariant c.next_part-2.ensures.next
    ∙ ap (λ (n : ℕ). length (split c.args.separator c.args.bytes.now) == n) (omega (arith, c.loop-passed.auto.passed-end, c.loop-passed-test.false))
