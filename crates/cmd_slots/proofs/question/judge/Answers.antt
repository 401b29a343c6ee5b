use Rattle.std.proofs.Common.{◌≡◌, ◌<◌, ◌≤◌, ◌∙◌, refl, arith, sym, ap, subst, length, Some}
use Rattle.prm_fields.specs.Refusal.{first_refusal}
use Rattle.cmd_format.specs.Entry.{entry_rules, HasParts}
use Rattle.cmd_slots.specs.Question.{entry_of, blocks, blocks_in, rules_before}
use Rattle.cmd_slots.proofs.Questions.{rules_none}
use Rattle.cmd_slots.proofs.Verdicts.{verdict_between, verdict_refused, verdict_next, verdict_body, entry_refused, blocks_by_parts}
use Rattle.cmd_slots.proofs.question.judge.Goals as goal

pub returns-then-not-is_judged : goal.returns-then-not-is_judged
returns-then-not-is_judged c = sym (verdict_between c.args.slot c.args.words.now (sym c.if-not-is_judged.ensures))

pub returns-in-Err : goal.returns-in-Err
returns-in-Err c =
    let slot = c.args.slot in
    let words = c.args.words.now in
    let broken : first_refusal (rules_before slot words 0) ≡ Some c.in-Err.fault =
    ap first_refusal (rules_none slot words) ∙ ap (λ bytes. first_refusal (entry_rules bytes)) (sym c.entry_bytes.ensures) ∙ c.in-Err.ensures.refused in
    sym (verdict_refused slot words (blocks_in (length words)) (sym c.if-not-is_judged.ensures) refl c.in-Err.fault (entry_refused slot words (blocks_in (length words)) c.in-Err.fault broken))

pub judge_loaded-requires-clause-kept : goal.judge_loaded-requires-clause-kept
judge_loaded-requires-clause-kept c =
    ap first_refusal (rules_none c.args.slot c.args.words.now) ∙ ap (λ bytes. first_refusal (entry_rules bytes)) (sym c.entry_bytes.ensures) ∙ c.in-Ok.ensures.refused

pub returns-in-Ok-judge_loaded : goal.returns-in-Ok-judge_loaded
returns-in-Ok-judge_loaded c =
    let slot = c.args.slot in
    let words = c.args.words.now in
    let parts : HasParts c.in-Ok.entry (entry_of words) = subst (HasParts c.in-Ok.entry) c.entry_bytes.ensures c.in-Ok.ensures.found.parts in
    let some : blocks_in (length words) < blocks words = omega (arith, blocks_by_parts words c.in-Ok.entry parts, c.blocks_wanted.ensures, c.if-there-blocks_wanted.true) in
    sym (verdict_next slot words (blocks_in (length words)) (sym c.if-not-is_judged.ensures) refl c.in-Ok-judge_loaded.ensures some)

pub returns-in-Ok-2 : goal.returns-in-Ok-2
returns-in-Ok-2 c =
    let slot = c.args.slot in
    let words = c.args.words.now in
    let parts : HasParts c.in-Ok.entry (entry_of words) = subst (HasParts c.in-Ok.entry) c.entry_bytes.ensures c.in-Ok.ensures.found.parts in
    let all : blocks words ≤ blocks_in (length words) = omega (arith, blocks_by_parts words c.in-Ok.entry parts, c.blocks_wanted.ensures, c.if-there-blocks_wanted.false) in
    ap Some c.read_body.ensures ∙ sym (verdict_body slot words (blocks_in (length words)) (sym c.if-not-is_judged.ensures) refl c.in-Ok-2.ensures all)

pub returns-in-Err-judge_loaded : goal.returns-in-Err-judge_loaded
returns-in-Err-judge_loaded c =
    sym (verdict_refused c.args.slot c.args.words.now (blocks_in (length c.args.words.now)) (sym c.if-not-is_judged.ensures) refl c.in-Err-judge_loaded.fault c.in-Err-judge_loaded.ensures)
