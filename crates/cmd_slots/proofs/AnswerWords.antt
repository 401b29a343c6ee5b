-- The words in which an answer is given.
use Rattle.std.proofs.Common.{◌≡◌, ℕ, zero, suc, ◌+◌, ◌-◌, ◌*◌, ◌/◌, ◌%◌, ◌^◌, ◌<◌, ◌≤◌, inl, inr, refl, ap, sym, ◌∙◌, subst, arith, List, [], ◌∷◌, ◌++◌, length, take, drop, get_or, replicate, slice_set}
use Rattle.std.proofs.lemmas.List.{take_more, take-take, get_or-take, get_or-drop, length-take, length-take-le}
use Rattle.std.proofs.Math.ListN.{length-drop}
use Rattle.std.proofs.Math.Nat.{mod-eq_of_lt}
use Rattle.prm_fields.specs.Bits.{field_value, KeepsOtherBits, KeepsOtherBytes}
use Rattle.prm_fields.proofs.Values.{field_value-lt}
use Rattle.prm_fields.proofs.Parts.{kept_field, bits_from_bytes, field_value-take, field_value-drop}
use Rattle.prm_fields.specs.Refusal.{first_refusal}
use Rattle.cmd_format.specs.Signature.{exclusive_or}
use Rattle.cmd_format.specs.Block.{IsBlock, block_at, block_rules, blocks_of}
use Rattle.cmd_bodies.specs.declared.reply.Reply.{Reply}
use Rattle.cmd_bodies.specs.Reply.{HasReply, listed_of, reply_length}
use Rattle.cmd_slots.specs.Bytes.{bytes_of}
use Rattle.cmd_slots.specs.declared.answer.Answer.{Answer}
use Rattle.cmd_slots.specs.declared.answer.Answer.TheVariants.{Delivered, Refused}
use Rattle.cmd_slots.specs.Refusal.{delivery_in, delivery_for}
use Rattle.cmd_slots.specs.Question.{token}
use Rattle.cmd_slots.specs.Answer.{answer_blocks, IsAnswer, Carries, output_words, listed_word}
use Rattle.cmd_slots.specs.Answering.{IsOutput, IsShort}
use Rattle.cmd_slots.specs.Blocks.{HasBlockWords}
use Rattle.cmd_slots.proofs.Ranges.{range_kept}
use Rattle.cmd_slots.proofs.AskedWords.{block_kept}
use Rattle.cmd_slots.proofs.Outputs.{length-output_words, output_words-listed}
use Rattle.cmd_slots.proofs.Spelling.{AreBytes, field_of_front, length-bytes_of, bytes_of-small, word_value, word_part, part_value, same_from_words}

-- the first four words
four_words : (entry : List ℕ) → 4 ≤ length entry → take 4 entry ≡ get_or entry 0 0 ∷ get_or entry 1 0 ∷ get_or entry 2 0 ∷ get_or entry 3 0 ∷ []
four_words entry long =
    take_more entry 3 0 (omega arith)
    ∙ ap (λ ws. ws ++ (get_or entry 3 0 ∷ [])) (take_more entry 2 0 (omega arith)
    ∙ ap (λ ws. ws ++ (get_or entry 2 0 ∷ [])) (take_more entry 1 0 (omega arith)
    ∙ ap (λ ws. ws ++ (get_or entry 1 0 ∷ [])) (take_more entry 0 0 (omega arith))))

-- the bytes of an entry with new output, given a new owner and status, and signed again
module _ (entry words written put signed : List ℕ) (high low status : ℕ) (eight : length entry ≡ 8) (status_small : status < 128)
    (written_is : written ≡ bytes_of (get_or entry 0 0 ∷ get_or entry 1 0 ∷ get_or entry 2 0 ∷ get_or entry 3 0 ∷ high ∷ low ∷ get_or entry 6 0 ∷ get_or entry 7 0 ∷ []))
    (put_is : field_value put 504 8 ≡ 2 * status) (put_others : KeepsOtherBits written put 504 8)
    (signed_is : exclusive_or signed ≡ 255) (signed_others : KeepsOtherBytes put signed 61 1)
    (long : length words ≡ 8) (words_are : bytes_of words ≡ signed) where
  abbrev last : ℕ
  last = get_or words 7 0

  abbrev old : List ℕ
  old = get_or entry 0 0 ∷ get_or entry 1 0 ∷ get_or entry 2 0 ∷ get_or entry 3 0 ∷ high ∷ low ∷ get_or entry 6 0 ∷ get_or entry 7 0 ∷ []

  abbrev new : List ℕ
  new = get_or entry 0 0 ∷ get_or entry 1 0 ∷ get_or entry 2 0 ∷ get_or entry 3 0 ∷ high ∷ low ∷ get_or entry 6 0 ∷ last ∷ []

  others : KeepsOtherBits put signed 488 8
  others = bits_from_bytes put signed 61 1 signed_others

  kept_word : (k : ℕ) → k < 7 → get_or new k 0 ≡ get_or old k 0 → field_value (bytes_of new) (64 * k) 64 ≡ field_value signed (64 * k) 64
  kept_word k low_k same =
      word_value new k (omega (arith, low_k)) ∙ ap (λ w. w % 2 ^ 64) same
      ∙ sym (kept_field put signed (64 * k) 64 488 8 others (inl (omega (arith, low_k)))
      ∙ (kept_field written put (64 * k) 64 504 8 put_others (inl (omega (arith, low_k)))
      ∙ (ap (λ bytes. field_value bytes (64 * k) 64) written_is
      ∙ word_value old k (omega (arith, low_k)))))

  last_kept : field_value (bytes_of new) 448 64 ≡ field_value signed 448 64
  last_kept = word_value new 7 (omega arith) ∙ sym (ap (λ bytes. field_value bytes 448 64) (sym words_are) ∙ word_value words 7 (omega (arith, long)))

  each_word : (k : ℕ) → k < 8 → field_value (bytes_of new) (64 * k) 64 ≡ field_value signed (64 * k) 64
  each_word zero inside = kept_word 0 (omega arith) refl
  each_word (suc zero) inside = kept_word 1 (omega arith) refl
  each_word (suc (suc zero)) inside = kept_word 2 (omega arith) refl
  each_word (suc (suc (suc zero))) inside = kept_word 3 (omega arith) refl
  each_word (suc (suc (suc (suc zero)))) inside = kept_word 4 (omega arith) refl
  each_word (suc (suc (suc (suc (suc zero))))) inside = kept_word 5 (omega arith) refl
  each_word (suc (suc (suc (suc (suc (suc zero)))))) inside = kept_word 6 (omega arith) refl
  each_word (suc (suc (suc (suc (suc (suc (suc zero))))))) inside = last_kept
  each_word (suc (suc (suc (suc (suc (suc (suc (suc k)))))))) inside = absurd (omega (arith, inside))

  signed_small : AreBytes signed
  signed_small = subst AreBytes words_are (bytes_of-small words)

  signed_long : length signed ≡ 64
  signed_long = ap length (sym words_are) ∙ length-bytes_of words ∙ omega (arith, long)

  pub entry_signed : exclusive_or (bytes_of (take 4 entry ++ (high ∷ low ∷ get_or entry 6 0 ∷ last ∷ []))) ≡ 255
  entry_signed =
      ap (λ ws. exclusive_or (bytes_of (ws ++ (high ∷ low ∷ get_or entry 6 0 ∷ last ∷ [])))) (four_words entry (omega (arith, eight)))
      ∙ (ap exclusive_or (same_from_words 8 (bytes_of new) signed (length-bytes_of new) signed_long (bytes_of-small new) signed_small each_word) ∙ signed_is)

  last_byte : last % 256 ≡ 2 * status
  last_byte =
      let low_byte : field_value signed 504 8 ≡ last % 2 ^ 64 / 2 ^ 0 % 2 ^ 8 = subst (λ (bytes : List ℕ). field_value bytes 504 8 ≡ last % 2 ^ 64 / 2 ^ 0 % 2 ^ 8) words_are (word_part words 7 56 8 0 (omega (arith, long)) (omega arith)) in
      let there = kept_field put signed 504 8 488 8 others (inr (omega arith)) in
      omega (arith, low_byte, there, put_is)

  pub entry_told : delivery_in last ≡ status
  entry_told = omega (arith, last_byte, status_small)

  pub entry_software : last % 2 ≡ 0
  entry_software = omega (arith, last_byte)

-- bytes with the same words spell the same reply
pub HasReply_same : (r : Reply) (a b : List ℕ) → ((j : ℕ) → j < 2 + listed_of r → field_value b (64 * j) 64 ≡ field_value a (64 * j) 64) → HasReply r a → HasReply r b
HasReply_same r a b same has = record {
  head = record {
    status_there = part 0 (omega arith) 0 8 56 refl ∙ has.head.status_there;
    syndrome_clear = part 0 (omega arith) 8 56 0 refl ∙ has.head.syndrome_clear;
    number_there = part 1 (omega arith) 0 32 32 refl ∙ has.head.number_there;
    count_there = part 1 (omega arith) 32 32 0 refl ∙ has.head.count_there;
  };
  addresses = record {
    long = has.addresses.long;
    words = λ k inside.
        let place : 128 + 64 * k ≡ 64 * (2 + k) = omega arith in
        let there : field_value a (128 + 64 * k) 64 ≡ get_or r.list k 0 = has.addresses.words k inside in
        ap (λ n. field_value b n 64) place ∙ (same (2 + k) (omega (arith, inside)) ∙ (ap (λ n. field_value a n 64) (sym place) ∙ there));
  };
} where
  part : (j : ℕ) → j < 2 + listed_of r → (before width after : ℕ) → before + width + after ≡ 64 → field_value b (64 * j + before) width ≡ field_value a (64 * j + before) width
  part j inside before width after whole =
      let there = same j inside in
      part_value b (64 * j) before width after
      ∙ (ap (λ n. field_value b (64 * j) n / 2 ^ after % 2 ^ width) whole
      ∙ (ap (λ n. n / 2 ^ after % 2 ^ width) there
      ∙ sym (part_value a (64 * j) before width after ∙ ap (λ n. field_value a (64 * j) n / 2 ^ after % 2 ^ width) whole)))

-- word m of a block is one of the words that it carries
block_word_value : (rest addresses bytes : List ℕ) (token b m : ℕ) → IsBlock (block_at rest addresses b) token b bytes → m < 64 → 512 * b + 8 * m + 8 ≤ length rest → field_value bytes (64 * m) 64 ≡ field_value rest (64 * (64 * b + m)) 64
block_word_value rest addresses bytes token b m is low inside =
    let part = take 512 (drop (512 * b) rest) in
    let held : 8 * m + 8 ≤ length part = omega (arith, length-take 512 (drop (512 * b) rest), length-drop (512 * b) rest, inside, low) in
    let place : 8 * (512 * b) + 64 * m ≡ 64 * (64 * b + m) = omega arith in
    sym (field_value-take bytes 512 (64 * m) 64 (omega (arith, low)))
    ∙ (ap (λ xs. field_value xs (64 * m) 64) is.part
    ∙ (field_of_front part (replicate (512 - length part) 0) (64 * m) 64 (omega (arith, held))
    ∙ (field_value-take (drop (512 * b) rest) 512 (64 * m) 64 (omega (arith, low))
    ∙ (field_value-drop rest (512 * b) (64 * m) 64
    ∙ ap (λ n. field_value rest n 64) place))))

-- how many blocks carry an output
pub answer_blocks-count : (a : Answer) (out_long : ℕ) (output : List ℕ) → length output ≡ 1040 → IsOutput a out_long output → IsShort a → blocks_of (length (take (out_long - 16) (drop 16 output))) ≡ answer_blocks a
answer_blocks-count (Delivered reply) out_long output long is short =
    let listed : out_long - 16 ≡ 8 * listed_of reply = omega (arith, is.0) in
    ap blocks_of (length-take-le (out_long - 16) (drop 16 output) (omega (arith, length-drop 16 output, long, listed, short)) ∙ listed)
answer_blocks-count (Refused fault) out_long output long is short =
    let none : out_long - 16 ≡ 0 = omega (arith, is) in
    ap (λ n. blocks_of (length (take n (drop 16 output)))) none

pub answer_blocks-few : (a : Answer) → IsShort a → answer_blocks a ≤ 2
answer_blocks-few (Delivered reply) short = omega (arith, short)
answer_blocks-few (Refused fault) short = omega arith

-- three words before the blocks
pub head_words : (high low last : ℕ) (words : List ℕ) → 3 ≤ length words → slice_set (slice_set (slice_set words 0 high) 1 low) 2 last ≡ high ∷ low ∷ last ∷ drop 3 words
head_words high low last [] few = absurd (omega (arith, few))
head_words high low last (a ∷ []) few = absurd (omega (arith, few))
head_words high low last (a ∷ b ∷ []) few = absurd (omega (arith, few))
head_words high low last (a ∷ b ∷ c ∷ words) few = refl

behind_head : (high low last n : ℕ) (words : List ℕ) → 3 ≤ length words → drop (3 + n) (high ∷ low ∷ last ∷ drop 3 words) ≡ drop (3 + n) words
behind_head high low last n [] few = absurd (omega (arith, few))
behind_head high low last n (a ∷ []) few = absurd (omega (arith, few))
behind_head high low last n (a ∷ b ∷ []) few = absurd (omega (arith, few))
behind_head high low last n (a ∷ b ∷ c ∷ words) few =
    let e : 3 + n ≡ suc (suc (suc n)) = omega arith in
    rw e refl

-- the words of an answer
module _ (entry output old addresses : List ℕ) (a : Answer) (out_long mark high low last : ℕ)
    (output_long : length output ≡ 1040) (is : IsOutput a out_long output) (short : IsShort a)
    (there : HasBlockWords (take (out_long - 16) (drop 16 output)) mark addresses 3 old) (old_long : length old ≡ 147)
    (mark_is : mark ≡ token entry) (high_is : high ≡ field_value output 0 64) (low_is : low ≡ field_value output 64 64)
    (software : last % 2 ≡ 0) (told : delivery_in last ≡ delivery_for a)
    (signed : exclusive_or (bytes_of (take 4 entry ++ (high ∷ low ∷ get_or entry 6 0 ∷ last ∷ []))) ≡ 255) where
  abbrev rest : List ℕ
  rest = take (out_long - 16) (drop 16 output)

  abbrev count : ℕ
  count = answer_blocks a

  abbrev words : List ℕ
  words = high ∷ low ∷ last ∷ drop 3 old

  abbrev given : List ℕ
  given = take (3 + 72 * count) words

  count_is : blocks_of (length rest) ≡ count
  count_is = answer_blocks-count a out_long output output_long is short

  words_long : length words ≡ 147
  words_long = omega (arith, length-drop 3 old, old_long)

  given_long : length given ≡ 3 + 72 * count
  given_long = length-take-le (3 + 72 * count) words (omega (arith, words_long, answer_blocks-few a short))

  block_given : (b : ℕ) → b < count → take 72 (drop (3 + 72 * b) given) ≡ take 72 (drop (3 + 72 * b) old)
  block_given b inside =
      range_kept given words (3 + 72 * count) (3 + 72 * b) 72 (take-take (3 + 72 * count) (3 + 72 * count) words (omega arith)) (omega (arith, inside))
      ∙ ap (take 72) (behind_head high low last (72 * b) old (omega (arith, old_long)))

  block_is : (b : ℕ) → b < count → IsBlock (block_at rest addresses b) mark b (bytes_of (take 72 (drop (3 + 72 * b) given)))
  block_is b inside = subst (λ (ws : List ℕ). IsBlock (block_at rest addresses b) mark b (bytes_of ws)) (sym (block_given b inside)) (there b (omega (arith, inside, count_is)))

  word_given : (k : ℕ) → k < 3 → get_or given k 0 ≡ get_or words k 0
  word_given k inside = get_or-take (3 + 72 * count) words k 0 (omega (arith, inside))

  -- the output in these words is the output
  carried_word : (r : Reply) → out_long ≡ reply_length r → listed_of r ≤ 88 → count ≡ blocks_of (8 * listed_of r) → (j : ℕ) → j < 2 + listed_of r → field_value (bytes_of (output_words given (listed_of r))) (64 * j) 64 ≡ field_value output (64 * j) 64
  carried_word r long few blocks zero inside =
      word_value (output_words given (listed_of r)) 0 (omega (arith, length-output_words given (listed_of r)))
      ∙ (ap (λ w. w % 2 ^ 64) (word_given 0 (omega arith) ∙ high_is) ∙ mod-eq_of_lt (field_value-lt output 0 64))
  carried_word r long few blocks (suc zero) inside =
      word_value (output_words given (listed_of r)) 1 (omega (arith, length-output_words given (listed_of r)))
      ∙ (ap (λ w. w % 2 ^ 64) (word_given 1 (omega arith) ∙ low_is) ∙ mod-eq_of_lt (field_value-lt output 64 64))
  carried_word r long few blocks (suc (suc k)) inside =
      let b : ℕ = k / 64 in
      let m : ℕ = k % 64 in
      let bytes = bytes_of (take 72 (drop (3 + 72 * b) given)) in
      let place : 2 + k ≡ suc (suc k) = omega arith in
      let low_m : m < 64 = omega arith in
      let low_b : b < count = omega (arith, inside, blocks) in
      let whole : 64 * b + m ≡ k = omega arith in
      let rest_long : length rest ≡ 8 * listed_of r = length-take-le (out_long - 16) (drop 16 output) (omega (arith, length-drop 16 output, output_long, long, few)) ∙ omega (arith, long) in
      let listed : get_or (output_words given (listed_of r)) (2 + k) 0 ≡ listed_word given k = output_words-listed given (listed_of r) k (omega (arith, inside)) in
      let in_block : get_or (take 72 (drop (3 + 72 * b) given)) m 0 ≡ listed_word given k =
      get_or-take 72 (drop (3 + 72 * b) given) m 0 (omega (arith, low_m)) ∙ get_or-drop (3 + 72 * b) given m 0 ∙ ap (λ n. get_or given n 0) (omega arith) in
      let block_long : length (take 72 (drop (3 + 72 * b) given)) ≡ 72 = length-take-le 72 (drop (3 + 72 * b) given) (omega (arith, length-drop (3 + 72 * b) given, given_long, low_b)) in
      let here : field_value (bytes_of (output_words given (listed_of r))) (64 * (2 + k)) 64 ≡ listed_word given k % 2 ^ 64 =
      word_value (output_words given (listed_of r)) (2 + k) (omega (arith, length-output_words given (listed_of r), inside)) ∙ ap (λ w. w % 2 ^ 64) listed in
      let block : field_value bytes (64 * m) 64 ≡ listed_word given k % 2 ^ 64 = word_value (take 72 (drop (3 + 72 * b) given)) m (omega (arith, block_long, low_m)) ∙ ap (λ w. w % 2 ^ 64) in_block in
      let carried : field_value bytes (64 * m) 64 ≡ field_value rest (64 * k) 64 = block_word_value rest addresses bytes mark b m (block_is b low_b) low_m (omega (arith, rest_long, inside)) ∙ ap (λ n. field_value rest (64 * n) 64) whole in
      let behind : field_value rest (64 * k) 64 ≡ field_value output (64 * suc (suc k)) 64 =
      field_value-take (drop 16 output) (out_long - 16) (64 * k) 64 (omega (arith, long, inside)) ∙ field_value-drop output 16 (64 * k) 64 ∙ ap (λ n. field_value output n 64) (omega arith) in
      ap (λ n. field_value (bytes_of (output_words given (listed_of r))) (64 * n) 64) (sym place) ∙ (here ∙ (sym block ∙ (carried ∙ behind)))

  carries : (x : Answer) → a ≡ x → Carries x given
  carries (Delivered reply) same =
      let out : IsOutput (Delivered reply) out_long output = subst (λ (y : Answer). IsOutput y out_long output) same is in
      let few : listed_of reply ≤ 88 = subst IsShort same short in
      HasReply_same reply output (bytes_of (output_words given (listed_of reply))) (carried_word reply out.0 few (ap answer_blocks same)) out.1
  carries (Refused fault) same = tt

  pub answer_is : IsAnswer entry a given
  answer_is = record {
    long = given_long;
    software = ap (λ w. w % 2) (word_given 2 (omega arith)) ∙ software;
    status = ap delivery_in (word_given 2 (omega arith)) ∙ told;
    signed =
        ap (λ w. exclusive_or (bytes_of (take 4 entry ++ (w ∷ get_or given 1 0 ∷ get_or entry 6 0 ∷ get_or given 2 0 ∷ [])))) (word_given 0 (omega arith))
        ∙ (ap (λ w. exclusive_or (bytes_of (take 4 entry ++ (high ∷ w ∷ get_or entry 6 0 ∷ get_or given 2 0 ∷ [])))) (word_given 1 (omega arith))
        ∙ (ap (λ w. exclusive_or (bytes_of (take 4 entry ++ (high ∷ low ∷ get_or entry 6 0 ∷ w ∷ [])))) (word_given 2 (omega arith)) ∙ signed));
    blocks = λ b inside.
        let bytes = bytes_of (take 72 (drop (3 + 72 * b) given)) in
        ap (λ t. first_refusal (block_rules t b bytes)) (sym mark_is) ∙ block_kept (block_at rest addresses b) mark b bytes (block_is b inside);
    carries = carries a refl;
  }
