use Rattle.std.proofs.Common.{Bor, List, ℕ, drop, ap, ap₂, ◌∙◌, arith}
use Rattle.scenario_text.specs.Text.{split, Parting}
use Rattle.scenario_text.proofs.Dropping.{next_dropped, taken_at}
use Rattle.scenario_text.proofs.parts.part.Goals as goal

pub loop-passed-init : goal.loop-passed-init
loop-passed-init c = c.of-left.ensures

pub loop-passed-preserved : goal.loop-passed-preserved
loop-passed-preserved c =
    ap₂ (λ separator left. record { separator = separator; left = left }) (c.next_part.ensures.same ∙ ap (λ (p : Parting). p.separator) c.loop-passed.invariant)
    (next_dropped (λ (b : Bor (List ℕ)). b.now) (split c.args.separator c.args.bytes.now) c.loop-passed.left.left c.next_part.new.self.left c.loop-passed.passed c.next_part.result (ap (λ (p : Parting). p.left) c.loop-passed.invariant) c.next_part.ensures.next)

pub returns : goal.returns
returns c =
    ap (λ (b : Bor (List ℕ)). b.now) c.unwrap_or.ensures
    ∙ taken_at (λ (b : Bor (List ℕ)). b.now) (split c.args.separator c.args.bytes.now) c.loop-passed.left.left c.next_part-2.new.self.left c.args.place c.next_part-2.result _
    (ap (λ (p : Parting). p.left) c.loop-passed.invariant ∙ ap (λ n. drop n (split c.args.separator c.args.bytes.now)) (omega (arith, c.loop-passed.auto.passed-end, c.loop-passed-test.false)))
    c.next_part-2.ensures.next
