use Rattle.std.proofs.Common.{◌≡◌, ◌≢◌, ◌-◌, ◌∙◌, sym, ap, rules}
use Rattle.cmd_format.specs.Block.{blocks_of}
use Rattle.cmd_slots.specs.Question.{inputs}
use Rattle.cmd_slots.proofs.Judging.{pointer_later}
use Rattle.cmd_slots.proofs.question.pointer_to.Goals as goal

pub returns-else-b-eq0 : goal.returns-else-b-eq0
returns-else-b-eq0 c =
    let words = c.args.words.now in
    let count : c.blocks_behind.result ≡ inputs words = c.blocks_behind.ensures ∙ sym (ap (λ n. blocks_of (n - 16)) c.requires.entry.in_len) in
    let not_output : c.args.b ≢ inputs words = λ same. c.if-b-blocks_behind.false (same ∙ sym count) in
    pointer_later words c.args.b not_output c.if-b-eq0.false c.requires.loaded (search (rules, c.type_inv.words))
