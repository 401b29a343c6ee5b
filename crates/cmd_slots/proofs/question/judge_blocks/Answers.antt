use Rattle.std.proofs.Common.{◌≡◌, ◌+◌, ◌-◌, ◌∙◌, ap, sym, arith}
use Rattle.std.proofs.lemmas.Result.{err_from_is_err_and}
use Rattle.prm_fields.specs.Refusal.{first_refusal}
use Rattle.cmd_slots.specs.Question.{rules_before}
use Rattle.cmd_slots.proofs.Questions.{rules_next, rules_broken}
use Rattle.cmd_slots.proofs.question.judge_blocks.Goals as goal

pub returns-in_err-judge_block : goal.returns-in_err-judge_block
returns-in_err-judge_block c =
    let p = err_from_is_err_and c.from_residual.result c.from_residual.ensures.1 in
    let slot = c.args.slot in
    let words = c.args.words.now in
    let b = c.loop-b.b in
    let broken = rules_next slot words b c.loop-b.invariant ∙ c.in_err-judge_block.ensures in
    let later = rules_broken slot words (b + 1) (c.args.count - (b + 1)) _ broken in
    let all : b + 1 + (c.args.count - (b + 1)) ≡ c.args.count = omega (arith, c.loop-b-test.true) in
    rw (p.1, p.2) (ap (λ n. first_refusal (rules_before slot words n)) (sym all) ∙ later)

pub loop-b-preserved : goal.loop-b-preserved
loop-b-preserved c = rules_next c.args.slot c.args.words.now c.loop-b.b c.loop-b.invariant ∙ c.in_ok-judge_block.ensures
