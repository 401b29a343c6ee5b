-- The words in which a host asks a command are a question: the adapter reads the command in them.
use Rattle.std.proofs.Common.{◌≡◌, ℕ, zero, suc, ◌+◌, ◌-◌, ◌*◌, ◌%◌, ◌^◌, ◌<◌, ◌≤◌, inl, inr, refl, ap, sym, ◌∙◌, subst, arith, true, false, cond, eqb, leb, ltb, ◌||◌, List, ◌++◌, length, take, drop, get_or, replicate, slice_range, Some, None, Ok, append_assoc}
use Rattle.std.proofs.lemmas.Bool.{cases_lt, eq-eqb, ne_eqb, le-leb, lt-ltb, le-ltb, and_from, or_left, or_right}
use Rattle.std.proofs.lemmas.List.{take_at, take-take, take_all, take-append-drop, append-nil, length-take-le, get_or-take}
use Rattle.std.proofs.Math.ListN.{length-drop}
use Rattle.prm_fields.specs.Bits.{field_value}
use Rattle.prm_fields.specs.Refusal.{first_refusal}
use Rattle.cmd_format.specs.declared.entry.CmdEntry.{CmdEntry}
use Rattle.cmd_format.specs.declared.block.Block.{Block}
use Rattle.cmd_format.specs.Entry.{IsEntry, KeepsLimits, entry_rules}
use Rattle.cmd_format.specs.Block.{IsBlock, block_rules, block_at, blocks_of, padded}
use Rattle.cmd_bodies.specs.declared.command.Command.{Command}
use Rattle.cmd_bodies.specs.declared.command.Command.TheVariants.{GivePages, ReturnPages, QueryPages}
use Rattle.cmd_bodies.specs.declared.command.PageUse.TheVariants.{Boot, Init}
use Rattle.cmd_bodies.specs.Kind.{kind_of_code}
use Rattle.cmd_bodies.specs.Command.{IsInput, FitsFields, body_rules, code_at, input_length_of, output_length_of}
use Rattle.cmd_bodies.proofs.Table.{never_without_row, rules_from_input}
use Rattle.cmd_slots.specs.Place.{block_address}
use Rattle.cmd_slots.specs.Bytes.{bytes_of}
use Rattle.cmd_slots.specs.Blocks.{HasBlockWords}
use Rattle.cmd_slots.specs.Asking.{asked_token, addresses_from, asked_entry}
use Rattle.cmd_slots.specs.Question.{entry_of, in_len, out_len, token, inputs, outputs, blocks, block_of, number_in, block_in_slot, pointer_to, rules_before, input_of, body_of, is_judged, blocks_in, verdict, IsQuestion}
use Rattle.cmd_slots.proofs.Refusals.{kept_by_all}
use Rattle.cmd_slots.proofs.Questions.{rules_none, rules_next}
use Rattle.cmd_slots.proofs.Verdicts.{judged_all, verdict_body}
use Rattle.cmd_slots.proofs.Spelling.{word_value, part_value}
use Rattle.cmd_slots.proofs.Ranges.{range_kept, take_kept}
use Rattle.cmd_slots.proofs.Bodies.{body_read}

-- how long input and output of a command are
pub record HasLengths_of (c : Command) : Type 0 where
  pub in_least : 16 ≤ input_length_of c
  pub in_most : input_length_of c ≤ 720
  pub out_least : 12 ≤ output_length_of c
  pub out_most : output_length_of c ≤ 720

pub lengths_of : (c : Command) → FitsFields c → HasLengths_of c
lengths_of (GivePages list) fits = record { in_least = omega arith; in_most = omega (arith, fits.count); out_least = omega arith; out_most = omega arith }
lengths_of (ReturnPages count) fits = record { in_least = omega arith; in_most = omega arith; out_least = omega arith; out_most = omega (arith, fits) }
lengths_of (QueryPages Boot) fits = record { in_least = omega arith; in_most = omega arith; out_least = omega arith; out_most = omega arith }
lengths_of (QueryPages Init) fits = record { in_least = omega arith; in_most = omega arith; out_least = omega arith; out_most = omega arith }
lengths_of _ fits = record { in_least = omega arith; in_most = omega arith; out_least = omega arith; out_most = omega arith }

-- bytes that spell an entry or a block keep its rules
pointer_needed : (bytes pointer : ℕ) → (bytes ≤ 16 → pointer ≡ 0) → (leb 17 bytes || eqb pointer 0) ≡ true
pointer_needed bytes pointer none = elim (cases_lt 16 bytes) [
  | inl more ↦ or_left _ _ (le-leb 17 bytes (omega (arith, more)))
  | inr few ↦ or_right _ _ (eq-eqb pointer 0 (none few))
]

pub entry_kept : (e : CmdEntry) (bytes : List ℕ) → IsEntry e bytes → KeepsLimits e → first_refusal (entry_rules bytes) ≡ None
entry_kept e bytes is keeps =
    let long = is.parts.in_len in
    let wanted = is.parts.out_len in
    kept_by_all (entry_rules bytes) (
      eq-eqb _ _ is.signed,
      (
        eq-eqb _ _ is.type_seven,
        (
          is.reserved,
          (
            and_from _ _ (le-leb 16 (field_value bytes 32 32) (omega (arith, long, keeps.input_least))) (le-leb (field_value bytes 32 32) 1040 (omega (arith, long, keeps.input_most))),
            (
              and_from _ _ (le-leb 12 (field_value bytes 448 32) (omega (arith, wanted, keeps.output_least))) (le-leb (field_value bytes 448 32) 1040 (omega (arith, wanted, keeps.output_most))),
              (
                pointer_needed (field_value bytes 32 32) (field_value bytes 64 64) (λ few. is.parts.in_ptr ∙ keeps.no_input_block (omega (arith, long, few))),
                (pointer_needed (field_value bytes 448 32) (field_value bytes 384 64) (λ few. is.parts.out_ptr ∙ keeps.no_output_block (omega (arith, wanted, few))), tt),
              ),
            ),
          ),
        ),
      ),
    )

pub block_kept : (b : Block) (token number : ℕ) (bytes : List ℕ) → IsBlock b token number bytes → first_refusal (block_rules token number bytes) ≡ None
block_kept b token number bytes is = kept_by_all (block_rules token number bytes) (
  and_from _ _ (eq-eqb _ _ is.control_signed) (eq-eqb _ _ is.signed),
  (eq-eqb _ _ is.tail.token_at, (eq-eqb _ _ is.tail.number_at, (is.tail.reserved, tt))),
)

pub body_kept : (input : List ℕ) (out_len : ℕ) (c : Command) → IsInput c input → out_len ≡ output_length_of c → first_refusal (body_rules input out_len) ≡ None
body_kept input out_len c is wanted =
    (elim (kind_of_code (code_at input)) as (λ k. kind_of_code (code_at input) ≡ k → first_refusal (body_rules input out_len) ≡ None) [
      | None ↦ λ unknown. absurd (never_without_row input unknown c is)
      | Some kind ↦ λ known. rw known (rules_from_input input out_len kind known c is wanted)
    ]) refl

-- rules that each block keeps
rules_kept : (slot : ℕ) (words : List ℕ) → first_refusal (entry_rules (entry_of words)) ≡ None
    → ((b : ℕ) → b < blocks words → (pointer_to words b ≡ block_address slot (block_in_slot (inputs words) b)) × (first_refusal (block_rules (token words) (number_in (inputs words) b) (block_of words b)) ≡ None))
    → (count : ℕ) → count ≤ blocks words → first_refusal (rules_before slot words count) ≡ None
rules_kept slot words entry each zero few = ap first_refusal (rules_none slot words) ∙ entry
rules_kept slot words entry each (suc count) few =
    let block = each count (omega (arith, few)) in
    let before = rules_kept slot words entry each count (omega (arith, few)) in
    let pointer : eqb (pointer_to words count) (block_address slot (block_in_slot (inputs words) count)) ≡ true = eq-eqb _ _ block.0 in
    let e : count + 1 ≡ suc count = omega arith in
    subst (λ (n : ℕ). first_refusal (rules_before slot words n) ≡ None) e (rules_next slot words count before ∙ rw pointer block.1)

-- the words of a command: an entry, the blocks of its input and those for its output
module _ (slot : ℕ) (c : Command) (words input rest zeros : List ℕ) (in_long out_long : ℕ)
    (is_entry : IsEntry (asked_entry slot (take 16 input) in_long out_long) (bytes_of (take 8 words)))
    (in_there : HasBlockWords rest asked_token (addresses_from slot 0) 8 words)
    (out_there : HasBlockWords zeros asked_token (addresses_from slot 2) (8 + 72 * blocks_of (length rest)) words)
    (is_input : IsInput c input) (input_long : length input ≡ in_long) (rest_is : rest ≡ drop 16 input)
    (in_is : in_long ≡ input_length_of c) (out_is : out_long ≡ output_length_of c) (zeros_long : length zeros ≡ out_long - 16)
    (lengths : HasLengths_of c)
    (room : 8 + 72 * (blocks_of (length rest) + blocks_of (length zeros)) ≤ length words) where
  abbrev count : ℕ
  count = blocks_of (length rest) + blocks_of (length zeros)

  abbrev question : List ℕ
  question = take (8 + 72 * count) words

  long : length question ≡ 8 + 72 * count
  long = length-take-le (8 + 72 * count) words room

  same_front : take (8 + 72 * count) question ≡ take (8 + 72 * count) words
  same_front = take-take (8 + 72 * count) (8 + 72 * count) words (omega arith)

  entry_same : entry_of question ≡ bytes_of (take 8 words)
  entry_same = ap bytes_of (take_kept question words (8 + 72 * count) 8 same_front (omega arith))

  entry_is : IsEntry (asked_entry slot (take 16 input) in_long out_long) (entry_of question)
  entry_is = subst (IsEntry (asked_entry slot (take 16 input) in_long out_long)) (sym entry_same) is_entry

  rest_long : length rest ≡ in_long - 16
  rest_long = ap length rest_is ∙ (length-drop 16 input ∙ omega (arith, input_long))

  inputs_are : inputs question ≡ blocks_of (length rest)
  inputs_are = ap (λ n. blocks_of (n - 16)) entry_is.parts.in_len ∙ ap blocks_of (sym rest_long)

  outputs_are : outputs question ≡ blocks_of (length zeros)
  outputs_are = ap (λ n. blocks_of (n - 16)) entry_is.parts.out_len ∙ ap blocks_of (sym zeros_long)

  blocks_are : blocks question ≡ count
  blocks_are = ap (λ n. n + outputs question) inputs_are ∙ ap (λ n. blocks_of (length rest) + n) outputs_are

  block_same : (b : ℕ) → b < count → block_of question b ≡ bytes_of (take 72 (drop (8 + 72 * b) words))
  block_same b low = ap bytes_of (range_kept question words (8 + 72 * count) (8 + 72 * b) 72 same_front (omega (arith, low)))

  in_block : (b : ℕ) → b < blocks_of (length rest) → IsBlock (block_at rest (addresses_from slot 0) b) asked_token b (block_of question b)
  in_block b low = subst (IsBlock (block_at rest (addresses_from slot 0) b) asked_token b) (sym (block_same b (omega (arith, low)))) (in_there b low)

  out_block : (j : ℕ) → j < blocks_of (length zeros) → IsBlock (block_at zeros (addresses_from slot 2) j) asked_token j (block_of question (blocks_of (length rest) + j))
  out_block j low =
      let place : 8 + 72 * blocks_of (length rest) + 72 * j ≡ 8 + 72 * (blocks_of (length rest) + j) = omega arith in
      subst (IsBlock (block_at zeros (addresses_from slot 2) j) asked_token j) (sym (block_same (blocks_of (length rest) + j) (omega (arith, low)) ∙ ap (λ n. bytes_of (take 72 (drop n words))) (sym place))) (out_there j low)

  in_few : blocks_of (length rest) ≤ 2
  in_few = omega (arith, rest_long, in_is, lengths.in_most)

  out_few : blocks_of (length zeros) ≤ 2
  out_few = omega (arith, zeros_long, out_is, lengths.out_most)

  not_first_output : (b : ℕ) → b < blocks_of (length rest) → eqb b (inputs question) ≡ false
  not_first_output b low = ne_eqb b (inputs question) (λ same. omega (arith, same, inputs_are, low))

  in_pointer : (b : ℕ) → b < blocks_of (length rest) → pointer_to question b ≡ block_address slot b
  in_pointer zero low =
      let other = not_first_output zero low in
      let needed : ltb 16 in_long ≡ true = lt-ltb 16 in_long (omega (arith, low, rest_long)) in
      rw other (entry_is.parts.in_ptr ∙ ap (λ t. cond t (block_address slot 0) 0) needed)
  in_pointer (suc zero) low =
      let other = not_first_output 1 low in
      let some : ltb 1 (blocks_of (length rest)) ≡ true = lt-ltb 1 (blocks_of (length rest)) low in
      rw other ((in_block zero (omega (arith, low))).tail.next_at ∙ ap (λ t. cond t (block_address slot 1) 0) some)
  in_pointer (suc (suc b)) low = absurd (omega (arith, low, in_few))

  out_pointer : (j : ℕ) → j < blocks_of (length zeros) → pointer_to question (blocks_of (length rest) + j) ≡ block_address slot (2 + j)
  out_pointer zero low =
      let first : eqb (blocks_of (length rest) + 0) (inputs question) ≡ true = eq-eqb _ _ (omega (arith, inputs_are)) in
      let needed : ltb 16 out_long ≡ true = lt-ltb 16 out_long (omega (arith, low, zeros_long)) in
      rw first (entry_is.parts.out_ptr ∙ ap (λ t. cond t (block_address slot 2) 0) needed)
  out_pointer (suc zero) low =
      let later : eqb (blocks_of (length rest) + 1) (inputs question) ≡ false = ne_eqb _ _ (λ same. omega (arith, same, inputs_are)) in
      let some_block : eqb (blocks_of (length rest) + 1) 0 ≡ false = ne_eqb _ _ (λ same. omega (arith, same)) in
      let before : blocks_of (length rest) + 1 - 1 ≡ blocks_of (length rest) + 0 = omega arith in
      let some : ltb 1 (blocks_of (length zeros)) ≡ true = lt-ltb 1 (blocks_of (length zeros)) low in
      rw (later, some_block, before) ((out_block zero (omega (arith, low))).tail.next_at ∙ ap (λ t. cond t (block_address slot 3) 0) some)
  out_pointer (suc (suc j)) low = absurd (omega (arith, low, out_few))

  token_is : token question ≡ asked_token
  token_is = entry_is.parts.token

  each_block : (b : ℕ) → b < blocks question → (pointer_to question b ≡ block_address slot (block_in_slot (inputs question) b)) × (first_refusal (block_rules (token question) (number_in (inputs question) b) (block_of question b)) ≡ None)
  each_block b low = elim (cases_lt b (blocks_of (length rest))) [
    | inl input_block ↦
        let is_in : ltb b (inputs question) ≡ true = lt-ltb b (inputs question) (omega (arith, inputs_are, input_block)) in (
          in_pointer b input_block ∙ ap (λ t. block_address slot (cond t b (2 + (b - inputs question)))) (sym is_in),
          ap (λ t. first_refusal (block_rules (token question) (cond t b (b - inputs question)) (block_of question b))) is_in
              ∙ (ap (λ n. first_refusal (block_rules n b (block_of question b))) token_is ∙ block_kept (block_at rest (addresses_from slot 0) b) asked_token b (block_of question b) (in_block b input_block)),
        )
    | inr output_block ↦
        let is_out : ltb b (inputs question) ≡ false = le-ltb b (inputs question) (omega (arith, inputs_are, output_block)) in
        let j = b - blocks_of (length rest) in
        let place : blocks_of (length rest) + j ≡ b = omega arith in
        let low_j : j < blocks_of (length zeros) = omega (arith, low, blocks_are) in
        let number : b - inputs question ≡ j = omega (arith, inputs_are) in
        let there : IsBlock (block_at zeros (addresses_from slot 2) j) asked_token j (block_of question b) = subst (λ (n : ℕ). IsBlock (block_at zeros (addresses_from slot 2) j) asked_token j (block_of question n)) place (out_block j low_j) in
        let pointer : pointer_to question b ≡ block_address slot (2 + j) = subst (λ (n : ℕ). pointer_to question n ≡ block_address slot (2 + j)) place (out_pointer j low_j) in (
          pointer ∙ (ap (λ n. block_address slot (2 + n)) (sym number) ∙ ap (λ t. block_address slot (cond t b (2 + (b - inputs question)))) (sym is_out)),
          ap (λ t. first_refusal (block_rules (token question) (cond t b (b - inputs question)) (block_of question b))) is_out
              ∙ (ap (λ n. first_refusal (block_rules (token question) n (block_of question b))) number
              ∙ (ap (λ n. first_refusal (block_rules n j (block_of question b))) token_is ∙ block_kept (block_at zeros (addresses_from slot 2) j) asked_token j (block_of question b) there)),
        )
  ]

  limits : KeepsLimits (asked_entry slot (take 16 input) in_long out_long)
  limits = record {
    input_least = omega (arith, in_is, lengths.in_least);
    input_most = omega (arith, in_is, lengths.in_most);
    output_least = omega (arith, out_is, lengths.out_least);
    output_most = omega (arith, out_is, lengths.out_most);
    no_input_block = λ few. ap (λ t. cond t (block_address slot 0) 0) (le-ltb 16 in_long few);
    no_output_block = λ few. ap (λ t. cond t (block_address slot 2) 0) (le-ltb 16 out_long few);
  }

  all_kept : first_refusal (rules_before slot question (blocks question)) ≡ None
  all_kept = rules_kept slot question (entry_kept (asked_entry slot (take 16 input) in_long out_long) (entry_of question) entry_is limits) each_block (blocks question) (omega arith)

  -- the parts of the input in the blocks
  part_is : (b : ℕ) → b < blocks_of (length rest) → take 512 (block_of question b) ≡ padded (take 512 (drop (512 * b) rest))
  part_is b low = (in_block b low).part

  head_is : slice_range (entry_of question) 16 32 ≡ take 16 input
  head_is = entry_is.parts.input

  split_input : take 16 input ++ rest ≡ input
  split_input = ap (λ r. take 16 input ++ r) rest_is ∙ take-append-drop 16 input

  in_len_is : in_len question ≡ length input
  in_len_is = entry_is.parts.in_len ∙ sym input_long

  abbrev first : List ℕ
  first = take 512 (block_of question 0)

  abbrev second : List ℕ
  second = take 512 (block_of question 1)

  -- what begins with the input
  input_front : (tail : List ℕ) → take 16 input ++ first ++ second ≡ input ++ tail → input_of question ≡ input
  input_front tail begins =
      ap (λ n. take n (slice_range (entry_of question) 16 32 ++ first ++ second)) in_len_is
      ∙ ap (λ h. take (length input) (h ++ first ++ second)) head_is
      ∙ ap (take (length input)) begins
      ∙ take_at input tail (length input) refl

  input_by : (n : ℕ) → blocks_of (length rest) ≡ n → input_of question ≡ input
  input_by zero none =
      let all : take 16 input ≡ input = take_all 16 input (omega (arith, none, rest_long, input_long)) in
      input_front (first ++ second) (ap (λ h. h ++ first ++ second) all ∙ append_assoc input first second)
  input_by (suc zero) one =
      let low : 0 < blocks_of (length rest) = omega (arith, one) in
      let all : take 512 rest ≡ rest = take_all 512 rest (omega (arith, one)) in
      let filled = replicate (512 - length (take 512 rest)) 0 in
      let part : first ≡ rest ++ filled = part_is 0 low ∙ ap (λ r. r ++ filled) all in
      input_front (filled ++ second)
      (ap (λ f. take 16 input ++ f ++ second) part
      ∙ ap (λ l. l ++ second) (sym (append_assoc (take 16 input) rest filled))
      ∙ ap (λ i. i ++ filled ++ second) split_input
      ∙ append_assoc input filled second)
  input_by (suc (suc n)) more =
      let two : 1 < blocks_of (length rest) = omega (arith, more) in
      let front_long : length (take 512 rest) ≡ 512 = length-take-le 512 rest (omega (arith, two)) in
      let none : 512 - length (take 512 rest) ≡ 0 = omega (arith, front_long) in
      let front : first ≡ take 512 rest = part_is 0 (omega (arith, two)) ∙ (ap (λ n. take 512 rest ++ replicate n 0) none ∙ append-nil (take 512 rest)) in
      let all : take 512 (drop 512 rest) ≡ drop 512 rest = take_all 512 (drop 512 rest) (omega (arith, length-drop 512 rest, in_few)) in
      let filled = replicate (512 - length (take 512 (drop 512 rest))) 0 in
      let back : second ≡ drop 512 rest ++ filled = part_is 1 two ∙ ap (λ r. r ++ filled) all in
      input_front filled
      (ap (λ f. take 16 input ++ f ++ second) front
      ∙ ap (λ b. take 16 input ++ take 512 rest ++ b) back
      ∙ sym (append_assoc (take 16 input ++ take 512 rest) (drop 512 rest) filled)
      ∙ ap (λ l. l ++ filled) (append_assoc (take 16 input) (take 512 rest) (drop 512 rest) ∙ ap (λ r. take 16 input ++ r) (take-append-drop 512 rest))
      ∙ ap (λ i. i ++ filled) split_input)

  input_is : input_of question ≡ input
  input_is = input_by (blocks_of (length rest)) refl

  out_len_is : out_len question ≡ out_long
  out_len_is = entry_is.parts.out_len

  spells : verdict slot question ≡ Some (Ok c)
  spells =
      let here : is_judged (length question) ≡ true = ap is_judged long ∙ and_from _ _ (le-leb 8 (8 + 72 * count) (omega arith)) (eq-eqb ((8 + 72 * count - 8) % 72) 0 (omega arith)) in
      let there : blocks_in (length question) ≡ blocks question = ap blocks_in long ∙ omega (arith, blocks_are) in
      verdict_body slot question (blocks question) here there (judged_all slot question (blocks question) all_kept (omega arith)) (omega arith)
      ∙ ap (λ i. Some (body_of i (out_len question))) input_is
      ∙ ap (λ n. Some (body_of input n)) out_len_is
      ∙ ap Some (body_read input out_long c is_input out_is (body_kept input out_long c is_input out_is))

  hardware : get_or question 7 0 % 2 ≡ 1
  hardware =
      let entry = entry_of question in
      let eight : length (take 8 question) ≡ 8 = length-take-le 8 question (omega (arith, long)) in
      let word : field_value entry 448 64 ≡ get_or question 7 0 % 2 ^ 64 = word_value (take 8 question) 7 (omega (arith, eight)) ∙ ap (λ w. w % 2 ^ 64) (get_or-take 8 question 7 0 (omega arith)) in
      let low = part_value entry 448 56 8 0 in
      let owned : field_value entry 504 8 ≡ 1 = entry_is.parts.status_own in
      omega (arith, word, low, owned)

  pub is_question : IsQuestion slot c question
  is_question = record { whole = long ∙ ap (λ n. 8 + 72 * n) (sym blocks_are); spells = spells; hardware = hardware }

-- what was written first stays when more is written behind it
pub HasBlockWords_kept : (rest addresses : List ℕ) (token head front : ℕ) (old new : List ℕ) → take front new ≡ take front old → head + 72 * blocks_of (length rest) ≤ front → HasBlockWords rest token addresses head old → HasBlockWords rest token addresses head new
HasBlockWords_kept rest addresses token head front old new same inside has b low =
    subst (λ (ws : List ℕ). IsBlock (block_at rest addresses b) token b (bytes_of ws)) (sym (range_kept new old front (head + 72 * b) 72 same (omega (arith, inside, low)))) (has b low)
