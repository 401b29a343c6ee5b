use Rattle.std.proofs.Common.{◌≡◌, ◌+◌, ◌*◌, ◌∙◌, ℕ, List, ◌∷◌, sym, subst, arith, length, take, drop}
use Rattle.cmd_slots.specs.Refusal.{delivery_in, delivery_for}
use Rattle.cmd_slots.specs.Answer.{IsAnswer, answer_blocks}
use Rattle.cmd_slots.proofs.AnswerWords.{answer_is, answer_blocks-count, head_words}
use Rattle.cmd_slots.proofs.answering.answer.Goals as goal

pub returns-clause-given : goal.returns-clause-given
returns-clause-given c =
    let entry : List ℕ = c.args.entry.now in
    let output : List ℕ = c.output_of-long.new.output in
    let long : ℕ = c.output_of-long.result in
    let old : List ℕ = c.put_blocks-blocks.new.words in
    let blocks : ℕ = c.put_blocks-blocks.result in
    let high : ℕ = c.word-high.result in
    let low : ℕ = c.word-low.result in
    let last : ℕ = c.last_word.result in
    let output_long : length output ≡ 1040 = c.output_of-long.array_long in
    let old_long : length old ≡ 147 = omega (arith, c.put_blocks-blocks.auto.words, c.told-words) in
    let count : blocks ≡ answer_blocks c.args.a.now = c.put_blocks-blocks.ensures.count ∙ answer_blocks-count c.args.a.now long output output_long c.output_of-long.ensures c.requires.short in
    let told : delivery_in last ≡ delivery_for c.args.a.now = c.last_word.ensures.told ∙ c.delivery_status.ensures.status in
    let is : IsAnswer entry c.args.a.now (take (3 + 72 * answer_blocks c.args.a.now) (high ∷ low ∷ last ∷ drop 3 old)) =
    answer_is entry output old c.addresses_from.result c.args.a.now long c.token_of.result high low last
    output_long c.output_of-long.ensures c.requires.short c.put_blocks-blocks.ensures.written old_long c.token_of.ensures c.word-high.ensures c.word-low.ensures c.last_word.ensures.software told c.last_word.ensures.signed in
    subst (λ (ws : List ℕ). IsAnswer entry c.args.a.now (take (3 + 72 * blocks) ws)) (sym (head_words high low last old (omega (arith, old_long))))
    (subst (λ (n : ℕ). IsAnswer entry c.args.a.now (take (3 + 72 * n) (high ∷ low ∷ last ∷ drop 3 old))) (sym count) is)
