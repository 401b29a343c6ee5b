use Rattle.std.proofs.Common.{◌≡◌, ◌-◌, ◌%◌, ◌^◌, ◌∙◌, ap, sym, arith, take, get_or, bit_and}
use Rattle.std.proofs.lemmas.List.{get_or-take, length-take-le}
use Rattle.std.proofs.lemmas.Nat.{and_mask}
use Rattle.cmd_format.specs.Block.{blocks_of}
use Rattle.cmd_slots.specs.Question.{in_len}
use Rattle.cmd_slots.proofs.Spelling.{low_half}
use Rattle.cmd_slots.proofs.place.input_blocks.Goals as goal

pub returns : goal.returns
returns c =
    let words = c.args.words.now in
    let eight = length-take-le 8 words (c.requires) in
    let half = low_half (take 8 words) (omega (arith, eight)) in
    let first = get_or-take 8 words 0 0 (omega arith) in
    let low : bit_and (get_or words 0 0) 4294967295 ≡ in_len words = and_mask (get_or words 0 0) 32 ∙ sym (half ∙ ap (λ n. n % 2 ^ 32) first) in
    c.blocks_behind.ensures ∙ ap (λ n. blocks_of (n - 16)) low
