use Rattle.std.proofs.Common.{◌≡◌, ◌≤◌, ◌-◌, ◌∙◌, ap, sym, arith, length, take, drop, slice_range, List, [], ◌++◌, ℕ}
use Rattle.std.proofs.lemmas.List.{length-take-le}
use Rattle.cmd_format.specs.Block.{blocks_of}
use Rattle.cmd_slots.specs.Question.{entry_of, in_len, inputs, block_of}
use Rattle.cmd_slots.proofs.Judging.{length-block_of, length-head}
use Rattle.cmd_slots.proofs.Bodies.{input_one, input_two}
use Rattle.cmd_slots.proofs.question.input_bytes.Goals as goal

pub returns-then-inputs-eq1 : goal.returns-then-inputs-eq1
returns-then-inputs-eq1 c =
    let words = c.args.words.now in
    let entry = c.args.entry.now in
    let count : c.blocks_behind-inputs.result ≡ inputs words = c.blocks_behind-inputs.ensures ∙ sym (ap (λ n. blocks_of (n - 16)) c.requires.entry.in_len) in
    let loaded : 80 ≤ length words = omega (arith, c.requires.loaded, count, c.if-inputs-eq1.true) in
    let first : List ℕ = take 512 (block_of words 0) in
    let first_long : length first ≡ 512 = length-take-le 512 (block_of words 0) (omega (arith, length-block_of words 0 (omega (arith, loaded)))) in
    let few : in_len words ≤ 528 = omega (arith, count, c.if-inputs-eq1.true) in
    input_one (in_len words) (slice_range (entry_of words) 16 32) first (take 512 (block_of words 1)) c.entry_input-bytes.result c.put_part.new.bytes []
    (length-head words (omega (arith, loaded))) first_long c.entry_input-bytes.ensures.long
    (c.entry_input-bytes.ensures.head ∙ sym c.requires.entry.input)
    (c.put_part.ensures ∙ ap (λ b. take 16 c.entry_input-bytes.result ++ take 512 b ++ drop 528 c.entry_input-bytes.result) c.block_bytes.ensures) few

pub returns : goal.returns
returns c =
    let words = c.args.words.now in
    let entry = c.args.entry.now in
    let count : c.blocks_behind-inputs.result ≡ inputs words = c.blocks_behind-inputs.ensures ∙ sym (ap (λ n. blocks_of (n - 16)) c.requires.entry.in_len) in
    let two : inputs words ≡ 2 = omega (arith, count, c.if-inputs-eq0.false, c.if-inputs-eq1.false, c.requires.limits.input_most, c.requires.entry.in_len) in
    let loaded : 152 ≤ length words = omega (arith, c.requires.loaded, two) in
    let first : List ℕ = take 512 (block_of words 0) in
    let first_long : length first ≡ 512 = length-take-le 512 (block_of words 0) (omega (arith, length-block_of words 0 (omega (arith, loaded)))) in
    input_two (in_len words) (slice_range (entry_of words) 16 32) first (take 512 (block_of words 1)) c.entry_input-bytes.result c.put_part.new.bytes c.put_part-2.new.bytes
    (length-head words (omega (arith, loaded))) first_long c.entry_input-bytes.ensures.long
    (c.entry_input-bytes.ensures.head ∙ sym c.requires.entry.input)
    (c.put_part.ensures ∙ ap (λ b. take 16 c.entry_input-bytes.result ++ take 512 b ++ drop 528 c.entry_input-bytes.result) c.block_bytes.ensures)
    (c.put_part-2.ensures ∙ ap (λ b. take 528 c.put_part.new.bytes ++ take 512 b ++ drop 1040 c.put_part.new.bytes) c.block_bytes-2.ensures)
