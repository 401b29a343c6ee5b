use Rattle.std.proofs.Common.{◌≡◌, ◌≤◌, ◌<◌, ◌+◌, ◌*◌, ◌-◌, ℕ, ◌∙◌, sym, subst, arith, length, take, drop}
use Rattle.std.proofs.lemmas.List.{length-take-le}
use Rattle.std.proofs.Math.ListN.{length-drop}
use Rattle.cmd_format.specs.Block.{IsBlock, block_at, blocks_of}
use Rattle.cmd_slots.proofs.Ranges.{Written_more}
use Rattle.cmd_slots.proofs.blocks.put_blocks.Goals as goal

pub loop-b-preserved : goal.loop-b-preserved
loop-b-preserved c =
    let b = c.loop-b.b in
    let rest = c.args.rest.now in
    let from : ℕ = c.args.at + 72 * b in
    let low : b < blocks_of (length rest) = omega (arith, c.loop-b-test.true, c.encode_blocks-count.ensures.count) in
    let inside : from + 72 ≤ length c.loop-b.words = omega (arith, low, c.requires.room, c.loop-b.auto.words) in
    let width : from + 72 - from ≡ 72 = omega arith in
    let long : length c.read_words.new.words ≡ 72 = c.read_words.auto.words ∙ subst (λ (n : ℕ). length (take n (drop from c.loop-b.words)) ≡ 72) (sym width) (length-take-le 72 (drop from c.loop-b.words) (omega (arith, length-drop from c.loop-b.words, inside))) in
    Written_more c.args.at c.loop-b.words c.args.words.now c.read_words.new.words (λ k. IsBlock (block_at rest c.args.addresses.now k) c.args.token k) b (from + 72 - from) (omega (arith, inside)) long
    (subst (IsBlock (block_at rest c.args.addresses.now b) c.args.token b) (sym c.read_words.ensures) (c.encode_blocks-count.ensures.written b low))
    c.loop-b.invariant
