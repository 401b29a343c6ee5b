-- What a question is whose words are all there, and that none of its beginnings is judged before.
use Rattle.std.proofs.Common.{◌≡◌, ℕ, zero, suc, ◌+◌, ◌-◌, ◌*◌, ◌/◌, ◌%◌, ◌<◌, ◌≤◌, inl, inr, refl, ap, sym, ◌∙◌, subst, arith, Bool, true, false, cond, eqb, leb, ltb, List, [], ◌∷◌, ◌++◌, length, take, drop, Option, Some, None, Result, Ok}
use Rattle.std.proofs.lemmas.List.{take-take, drop-take, length-take-le}
use Rattle.std.proofs.Math.Numerals.{add-one}
use Rattle.std.proofs.lemmas.Bool.{cases_Bool, cases_lt, lt-leb, lt-ltb, eqb-true, leb-true, and_parts}
use Rattle.prm_fields.specs.Bits.{field_value}
use Rattle.prm_fields.specs.Refusal.{first_refusal}
use Rattle.cmd_format.specs.declared.delivery.Delivery.{Delivery}
use Rattle.cmd_format.specs.Entry.{entry_rules}
use Rattle.cmd_format.specs.Block.{block_rules}
use Rattle.cmd_bodies.specs.declared.command.Command.{Command}
use Rattle.cmd_slots.specs.declared.answer.Answer.{Answer}
use Rattle.cmd_slots.specs.Bytes.{bytes_of}
use Rattle.cmd_slots.specs.Question.{entry_of, in_len, out_len, token, inputs, blocks, block_of, number_in, pointer_rule, rules_before, judged, input_of, IsQuestion, body_of, decided, is_judged, blocks_in, verdict_with, verdict, question_word}
use Rattle.cmd_slots.proofs.Refusals.{all_kept, kept_first, kept_parts, behind_kept, broken_first}
use Rattle.cmd_slots.specs.Turn.{IsShape}
use Rattle.cmd_slots.proofs.Places.{question_entry, question_block}

-- an entry whose rules are kept has at most two blocks of input and two of output
pub record HasLengths (words : List ℕ) : Type 0 where
  pub in_least : 16 ≤ in_len words
  pub in_most : in_len words ≤ 1040
  pub out_least : 12 ≤ out_len words
  pub out_most : out_len words ≤ 1040

pub lengths_kept : (words : List ℕ) → first_refusal (entry_rules (entry_of words)) ≡ None → HasLengths words
lengths_kept words kept =
    let holds = all_kept (entry_rules (entry_of words)) kept in
    let in_parts = and_parts (leb 16 (in_len words)) (leb (in_len words) 1040) holds.1.1.1.0 in
    let out_parts = and_parts (leb 12 (out_len words)) (leb (out_len words) 1040) holds.1.1.1.1.0 in
    record {
      in_least = leb-true _ _ in_parts.0;
      in_most = leb-true _ _ in_parts.1;
      out_least = leb-true _ _ out_parts.0;
      out_most = leb-true _ _ out_parts.1;
    }

pub entry_before : (slot : ℕ) (words : List ℕ) (b : ℕ) → first_refusal (rules_before slot words b) ≡ None → first_refusal (entry_rules (entry_of words)) ≡ None
unfolding rules_before
entry_before slot words zero kept = kept
entry_before slot words (suc b) kept = entry_before slot words b (kept_parts (rules_before slot words b) _ kept).0

pub rules_suc : (slot : ℕ) (words : List ℕ) (b : ℕ) → rules_before slot words (suc b) ≡ rules_before slot words b ++ (pointer_rule slot words b ∷ block_rules (token words) (number_in (inputs words) b) (block_of words b))
unfolding rules_before
rules_suc slot words b = refl

pub rules_none : (slot : ℕ) (words : List ℕ) → rules_before slot words 0 ≡ entry_rules (entry_of words)
unfolding rules_before
rules_none slot words = refl

-- rules of more blocks are those of fewer and others
pub rules_fewer : (slot : ℕ) (words : List ℕ) (b more : ℕ) → first_refusal (rules_before slot words (b + more)) ≡ None → first_refusal (rules_before slot words b) ≡ None
rules_fewer slot words b zero kept = subst (λ (n : ℕ). first_refusal (rules_before slot words n) ≡ None) (omega arith) kept
rules_fewer slot words b (suc more) kept =
    let e : b + suc more ≡ suc (b + more) = omega arith in
    let next : first_refusal (rules_before slot words (suc (b + more))) ≡ None = subst (λ (n : ℕ). first_refusal (rules_before slot words n) ≡ None) e kept in
    rules_fewer slot words b more (kept_parts (rules_before slot words (b + more)) _ (ap first_refusal (sym (rules_suc slot words (b + more))) ∙ next)).0

decided_ok : (refusal : Option Delivery) (whole : Bool) (body : Result Command Answer) (question : Result Command Answer) (c : Command) → question ≡ Ok c → decided refusal whole body ≡ Some question → (refusal ≡ None) × (whole ≡ true) × (body ≡ question)
decided_ok (Some fault) whole body question c ok is = absurd (cc)
decided_ok None true body question c ok is = (refl, refl, cc)
decided_ok None false body question c ok is = absurd (cc)

-- all words of a question are there, its rules are kept, and its body is the command
pub record IsWhole (slot : ℕ) (c : Command) (words : List ℕ) : Type 0 where
  pub shape : IsShape words
  pub kept : first_refusal (rules_before slot words (blocks words)) ≡ None
  pub body : body_of (input_of words) (out_len words) ≡ Ok c

pub verdict_is : (slot : ℕ) (words : List ℕ) → verdict slot words ≡ cond (is_judged (length words)) (verdict_with slot words (blocks_in (length words))) None
unfolding verdict
verdict_is slot words = refl

pub question_whole : (slot : ℕ) (c : Command) (words : List ℕ) → IsQuestion slot c words → IsWhole slot c words
question_whole slot c words is = elim (cases_Bool (is_judged (length words))) [
  | inl here ↦
      let b = blocks_in (length words) in
      let count : b ≡ blocks words = omega (arith, is.whole) in
      let with_blocks : verdict_with slot words b ≡ Some (Ok c) = sym (verdict_is slot words ∙ ap (λ t. cond t (verdict_with slot words b) None) here) ∙ is.spells in
      let d = decided_ok (first_refusal (judged slot words b)) (leb (blocks words) b) (body_of (input_of words) (out_len words)) (Ok c) c refl with_blocks in
      let before = (kept_parts (rules_before slot words b) _ d.0).0 in
      let kept : first_refusal (rules_before slot words (blocks words)) ≡ None = subst (λ (n : ℕ). first_refusal (rules_before slot words n) ≡ None) count before in
      let lengths = lengths_kept words (entry_before slot words b before) in
      record {
        shape = record { long = is.whole; few_inputs = omega (arith, lengths.in_most); few_outputs = omega (arith, lengths.out_most) };
        kept = kept;
        body = d.2;
      }
  | inr part ↦
      let none : verdict slot words ≡ None = verdict_is slot words ∙ ap (λ t. cond t (verdict_with slot words (blocks_in (length words))) None) part in
      let wrong : Some (Ok c) ≡ None = sym is.spells ∙ none in
      absurd (cc)
]

-- a list that begins as the words do, as far as they are read
record Begins (count : ℕ) (ws words : List ℕ) : Type 0 where
  entry : 8 ≤ count → entry_of ws ≡ entry_of words
  block : (k : ℕ) → 80 + 72 * k ≤ count → block_of ws k ≡ block_of words k

begins : (words : List ℕ) (count : ℕ) → Begins count (take count words) words
begins words count = record {
  entry = λ low. ap bytes_of (take-take 8 count words low);
  block = λ k low.
      let behind : count ≡ 8 + 72 * k + (count - (8 + 72 * k)) = omega arith in
      let dropped : drop (8 + 72 * k) (take count words) ≡ take (count - (8 + 72 * k)) (drop (8 + 72 * k) words) = ap (λ n. drop (8 + 72 * k) (take n words)) behind ∙ drop-take (8 + 72 * k) (count - (8 + 72 * k)) words in
      ap bytes_of (ap (take 72) dropped ∙ take-take 72 (count - (8 + 72 * k)) (drop (8 + 72 * k) words) (omega arith));
}

module _ (slot count : ℕ) (ws words : List ℕ) (alike : Begins count ws words) where
  pointer_same : (b : ℕ) → 8 + 72 * b ≤ count → pointer_rule slot ws b ≡ pointer_rule slot words b
  pointer_same zero low = let entry = alike.entry low in rw entry refl
  pointer_same (suc b) low =
      let entry = alike.entry (omega arith) in
      let block = alike.block b (omega arith) in
      let before : suc b - 1 ≡ b = omega arith in
      rw (before, entry, block) refl

  rules_same : (b : ℕ) → 8 + 72 * b ≤ count → rules_before slot ws b ≡ rules_before slot words b
  rules_same zero low = rules_none slot ws ∙ ap entry_rules (alike.entry low) ∙ sym (rules_none slot words)
  rules_same (suc b) low =
      let before = rules_same b (omega arith) in
      let pointer = pointer_same b (omega arith) in
      let entry = alike.entry (omega arith) in
      let block = alike.block b (omega arith) in
      rules_suc slot ws b
      ∙ ap (λ rules. rules ++ (pointer_rule slot ws b ∷ block_rules (token ws) (number_in (inputs ws) b) (block_of ws b))) before
      ∙ ap (λ r. rules_before slot words b ++ (r ∷ block_rules (token ws) (number_in (inputs ws) b) (block_of ws b))) pointer
      ∙ rw (entry, block) refl
      ∙ sym (rules_suc slot words b)

-- a beginning of a question is not judged
pub beginning_open : (slot : ℕ) (c : Command) (words : List ℕ) (count : ℕ) → IsWhole slot c words → count < length words → verdict slot (take count words) ≡ None
beginning_open slot c words count whole low =
    let ws = take count words in
    let long : length ws ≡ count = length-take-le count words (omega arith) in
    verdict_is slot ws ∙ ap (λ n. cond (is_judged n) (verdict_with slot ws (blocks_in n)) None) long
    ∙ elim (cases_Bool (is_judged count)) [
      | inr part ↦ rw part refl
      | inl here ↦
          let parts = and_parts (leb 8 count) (eqb ((count - 8) % 72) 0) here in
          let least : 8 ≤ count = leb-true 8 count parts.0 in
          let even : (count - 8) % 72 ≡ 0 = eqb-true ((count - 8) % 72) 0 parts.1 in
          let b = blocks_in count in
          let alike = begins words count in
          let entry : entry_of ws ≡ entry_of words = alike.entry least in
          let some : b < blocks words = omega (arith, whole.shape.long, even, least) in
          let same_blocks : blocks ws ≡ blocks words = ap (λ e. (field_value e 32 32 - 16 + 511) / 512 + (field_value e 448 32 - 16 + 511) / 512) entry in
          let all : b + 1 + (blocks words - (b + 1)) ≡ blocks words = omega arith in
          let upto : first_refusal (rules_before slot words (b + 1)) ≡ None = rules_fewer slot words (b + 1) (blocks words - (b + 1)) (subst (λ (n : ℕ). first_refusal (rules_before slot words n) ≡ None) (sym all) whole.kept) in
          let next : first_refusal (rules_before slot words b ++ (pointer_rule slot words b ∷ block_rules (token words) (number_in (inputs words) b) (block_of words b))) ≡ None =
          ap first_refusal (sym (rules_suc slot words b)) ∙ subst (λ (n : ℕ). first_refusal (rules_before slot words n) ≡ None) (omega arith) upto in
          let apart = kept_parts (rules_before slot words b) _ next in
          let pointer = kept_first _ _ (block_rules (token words) (number_in (inputs words) b) (block_of words b)) apart.1 in
          let same_rules : rules_before slot ws b ≡ rules_before slot words b = rules_same slot count ws words alike b (omega (arith, even, least)) in
          let same_pointer : pointer_rule slot ws b ≡ pointer_rule slot words b = pointer_same slot count ws words alike b (omega (arith, even, least)) in
          let more : ltb b (blocks ws) ≡ true = lt-ltb b (blocks ws) (omega (arith, some, same_blocks)) in
          let kept : first_refusal (judged slot ws b) ≡ None =
          ap (λ t. first_refusal (rules_before slot ws b ++ cond t (pointer_rule slot ws b ∷ []) [])) more
          ∙ ap (λ rules. first_refusal (rules ++ (pointer_rule slot ws b ∷ []))) same_rules
          ∙ ap (λ r. first_refusal (rules_before slot words b ++ (r ∷ []))) same_pointer
          ∙ behind_kept (rules_before slot words b) (pointer_rule slot words b ∷ []) apart.0
          ∙ ap (λ t. cond t (first_refusal {Fault = Delivery} []) (Some (pointer_rule slot words b).otherwise)) pointer.0 in
          let open_still : leb (blocks ws) b ≡ false = lt-leb (blocks ws) b (omega (arith, some, same_blocks)) in
          ap (λ t. cond t (verdict_with slot ws b) None) here ∙ ap (λ r. decided r (leb (blocks ws) b) (body_of (input_of ws) (out_len ws))) kept ∙ ap (λ t. decided None t (body_of (input_of ws) (out_len ws))) open_still
    ]

-- the next word of a question that is read is at its place
pub beginning_word : (slot : ℕ) (words : List ℕ) (count : ℕ) → question_word slot (take count words) count ≡ question_word slot words count
beginning_word slot words count = elim (cases_lt count 8) [
  | inl low ↦ question_entry slot (take count words) count low ∙ sym (question_entry slot words count low)
  | inr high ↦
      let entry : entry_of (take count words) ≡ entry_of words = (begins words count).entry high in
      question_block slot (take count words) count high ∙ rw entry (sym (question_block slot words count high))
]

-- the rules of one block more
pub rules_next : (slot : ℕ) (words : List ℕ) (b : ℕ) → first_refusal (rules_before slot words b) ≡ None → first_refusal (rules_before slot words (b + 1)) ≡ first_refusal (pointer_rule slot words b ∷ block_rules (token words) (number_in (inputs words) b) (block_of words b))
rules_next slot words b kept =
    ap (λ n. first_refusal (rules_before slot words n)) (add-one b)
    ∙ ap first_refusal (rules_suc slot words b)
    ∙ behind_kept (rules_before slot words b) (pointer_rule slot words b ∷ block_rules (token words) (number_in (inputs words) b) (block_of words b)) kept

-- a refusal stays the first one when more is judged
pub rules_broken : (slot : ℕ) (words : List ℕ) (b more : ℕ) (fault : Delivery) → first_refusal (rules_before slot words b) ≡ Some fault → first_refusal (rules_before slot words (b + more)) ≡ Some fault
rules_broken slot words b zero fault broken = subst (λ (n : ℕ). first_refusal (rules_before slot words n) ≡ Some fault) (omega arith) broken
rules_broken slot words b (suc more) fault broken =
    let e : suc (b + more) ≡ b + suc more = omega arith in
    subst (λ (n : ℕ). first_refusal (rules_before slot words n) ≡ Some fault) e
    (ap first_refusal (rules_suc slot words (b + more)) ∙ broken_first (rules_before slot words (b + more)) _ fault (rules_broken slot words b more fault broken))
