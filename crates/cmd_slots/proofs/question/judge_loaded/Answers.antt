use Rattle.std.proofs.Common.{◌<◌, ◌∙◌, arith}
use Rattle.std.proofs.lemmas.Result.{err_from_is_err_and}
use Rattle.cmd_slots.specs.Question.{blocks}
use Rattle.cmd_slots.proofs.Verdicts.{judged_broken, judged_pointer, blocks_by_parts}
use Rattle.cmd_slots.proofs.question.judge_loaded.Goals as goal

pub returns-in_err-judge_blocks : goal.returns-in_err-judge_blocks
returns-in_err-judge_blocks c =
    let p = err_from_is_err_and c.from_residual.result c.from_residual.ensures.1 in
    rw (p.1, p.2) (judged_broken c.args.slot c.args.words.now c.args.count _ c.in_err-judge_blocks.ensures)

pub returns-in_err-judge_pointer : goal.returns-in_err-judge_pointer
returns-in_err-judge_pointer c =
    let p = err_from_is_err_and c.from_residual-in_err-judge_pointer.result c.from_residual-in_err-judge_pointer.ensures.1 in
    let words = c.args.words.now in
    let some : c.args.count < blocks words = omega (arith, blocks_by_parts words c.args.entry.now c.requires.entry, c.blocks_wanted.ensures, c.if-count-blocks_wanted.true) in
    rw (p.1, p.2) (judged_pointer c.args.slot words c.args.count c.in_ok-judge_blocks.ensures some ∙ c.in_err-judge_pointer.ensures)

pub returns-in_ok-judge_pointer : goal.returns-in_ok-judge_pointer
returns-in_ok-judge_pointer c =
    let words = c.args.words.now in
    let some : c.args.count < blocks words = omega (arith, blocks_by_parts words c.args.entry.now c.requires.entry, c.blocks_wanted.ensures, c.if-count-blocks_wanted.true) in
    judged_pointer c.args.slot words c.args.count c.in_ok-judge_blocks.ensures some ∙ c.in_ok-judge_pointer.ensures
