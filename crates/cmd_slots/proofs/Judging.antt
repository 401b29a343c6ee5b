-- What a reader reads of the words of a question.
use Rattle.std.proofs.Common.{◌≡◌, ◌≢◌, ℕ, ◌+◌, ◌-◌, ◌*◌, ◌%◌, ◌^◌, ◌<◌, ◌≤◌, ap, sym, ◌∙◌, arith, List, length, take, drop, get_or, slice_range}
use Rattle.std.proofs.lemmas.List.{get_or-take, get_or-drop, length-take-le}
use Rattle.std.proofs.Math.ListN.{length-drop}
use Rattle.std.proofs.Math.Nat.{mod-eq_of_lt}
use Rattle.std.proofs.lemmas.Bool.{ne_eqb}
use Rattle.prm_fields.specs.Bits.{field_value}
use Rattle.prm_fields.proofs.Parts.{field_value-take, field_value-drop, length-range}
use Rattle.cmd_format.specs.Block.{tail_of}
use Rattle.cmd_slots.specs.Question.{entry_of, inputs, block_of, pointer_to}
use Rattle.cmd_slots.proofs.Spelling.{word_value, length-bytes_of}

-- a word of a block, as a number in its bytes
pub block_word_value : (words : List ℕ) (b k : ℕ) → k < 72 → 80 + 72 * b ≤ length words → get_or words (8 + 72 * b + k) 0 < 2 ^ 64 → field_value (block_of words b) (64 * k) 64 ≡ get_or words (8 + 72 * b + k) 0
block_word_value words b k low loaded small =
    let part = drop (8 + 72 * b) words in
    let long : length (take 72 part) ≡ 72 = length-take-le 72 part (omega (arith, length-drop (8 + 72 * b) words, loaded)) in
    let word : get_or (take 72 part) k 0 ≡ get_or words (8 + 72 * b + k) 0 = get_or-take 72 part k 0 low ∙ get_or-drop (8 + 72 * b) words k 0 in
    word_value (take 72 part) k (omega (arith, long)) ∙ ap (λ w. w % 2 ^ 64) word ∙ mod-eq_of_lt small

-- the next pointer in a block's tail is its word 70
pub next_pointer : (words : List ℕ) (b : ℕ) → 80 + 72 * b ≤ length words → get_or words (78 + 72 * b) 0 < 2 ^ 64 → field_value (tail_of (block_of words b)) 384 64 ≡ get_or words (78 + 72 * b) 0
next_pointer words b loaded small =
    let at_word : 8 + 72 * b + 70 ≡ 78 + 72 * b = omega arith in
    let bytes = block_of words b in
    field_value-take (drop 512 bytes) 64 384 64 (omega arith)
    ∙ field_value-drop bytes 512 384 64
    ∙ (rw at_word at (block_word_value words b 70 (omega arith) loaded (rw at_word small)))

pub pointer_later : (words : List ℕ) (b : ℕ) → b ≢ inputs words → b ≢ 0 → 8 + 72 * b ≤ length words → get_or words (6 + 72 * b) 0 < 2 ^ 64 → get_or words (6 + 72 * b) 0 ≡ pointer_to words b
pointer_later words b not_output some loaded small =
    let at_word : 78 + 72 * (b - 1) ≡ 6 + 72 * b = omega (arith, some) in
    let next = next_pointer words (b - 1) (omega (arith, some, loaded)) (rw at_word small) in
    rw (ne_eqb b (inputs words) not_output, ne_eqb b 0 some) (sym (next ∙ ap (λ n. get_or words n 0) at_word))

-- a block that is there has 576 bytes
pub length-block_of : (words : List ℕ) (b : ℕ) → 80 + 72 * b ≤ length words → length (block_of words b) ≡ 576
length-block_of words b loaded =
    let part = drop (8 + 72 * b) words in
    length-bytes_of (take 72 part) ∙ omega (arith, length-take-le 72 part (omega (arith, length-drop (8 + 72 * b) words, loaded)))

-- the input that an entry holds has 16
pub length-head : (words : List ℕ) → 8 ≤ length words → length (slice_range (entry_of words) 16 32) ≡ 16
length-head words loaded =
    let long : length (entry_of words) ≡ 64 = length-bytes_of (take 8 words) ∙ omega (arith, length-take-le 8 words loaded) in
    length-range (entry_of words) 16 16 (omega (arith, long))
