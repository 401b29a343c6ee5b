-- The device reads a question: it has a next word until there is a verdict.
use Rattle.std.proofs.Common.{◌≡◌, ℕ, zero, suc, ◌+◌, ◌-◌, ◌*◌, ◌/◌, ◌%◌, ◌^◌, ◌<◌, ◌≤◌, inl, inr, refl, ap, sym, ◌∙◌, subst, arith, Bool, true, false, cond, eqb, leb, List, [], ◌∷◌, ◌++◌, length, take, slice_set, Option, Some, None, Result, Ok, Err, length-append}
use Rattle.std.proofs.lemmas.Bool.{cases_Bool, cases_lt, leb-true, leb-false, eqb-true, and_parts, le-leb, eq-eqb, and_from}
use Rattle.std.proofs.lemmas.List.{take-append-le, take-take, length-take-le, length-set}
use Rattle.std.proofs.lemmas.Grind.{take-set_at}
use Rattle.prm_fields.specs.Bits.{field_value}
use Rattle.prm_fields.specs.Refusal.{first_refusal}
use Rattle.cmd_format.specs.Block.{blocks_of}
use Rattle.cmd_format.specs.declared.delivery.Delivery.{Delivery}
use Rattle.cmd_bodies.specs.declared.command.Command.{Command}
use Rattle.cmd_bodies.specs.Kind.{kind_of_code}
use Rattle.cmd_bodies.specs.Command.{body_rules, code_at, command_at}
use Rattle.cmd_bodies.specs.declared.decoder.BodyFault.{BodyFault}
use Rattle.bus_core.specs.declared.operation.BusEntry.{BusEntry}
use Rattle.bus_core.specs.declared.turn.Step.{Step}
use Rattle.bus_core.specs.declared.turn.Step.TheVariants.{Done}
use Rattle.bus_core.specs.Operation.{IsLoad, loaded}
use Rattle.cmd_slots.specs.declared.answer.Answer.{Answer}
use Rattle.cmd_slots.specs.declared.answer.Answer.TheVariants.{Refused}
use Rattle.cmd_slots.specs.declared.device.SlotDone.{SlotDone}
use Rattle.cmd_slots.specs.Place.{IsSlot, touches}
use Rattle.cmd_slots.specs.Bytes.{bytes_of}
use Rattle.cmd_slots.specs.Question.{entry_of, inputs, outputs, blocks, question_word, rules_before, judged, input_of, out_len, body_with, body_of, decided, is_judged, blocks_in, verdict_with, verdict}
use Rattle.cmd_slots.specs.Turn.{HasWord}
use Rattle.cmd_slots.specs.Device.{Reading, Judged, judged_as}
use Rattle.cmd_slots.specs.DeviceView.{DeviceView, DeviceTurn, CanAnswer, Read, done_of, judged_answer}
use Rattle.cmd_slots.specs.DeviceInside.{HasShort, IsReading, IsJudged}
use Rattle.cmd_slots.proofs.Refusals.{kept_parts}
use Rattle.cmd_slots.proofs.Questions.{verdict_is, entry_before, lengths_kept}

true_not_false : true ≡ false → ⊥
true_not_false same = cc

is_question : (question question' : Result Command Answer) → ◌≡◌ {A = Option (Result Command Answer)} (Some question) (Some question') → question ≡ question'
is_question question question' same = cc

decided_open : (refusal : Option Delivery) (whole : Bool) (body : Result Command Answer) → decided refusal whole body ≡ None → (refusal ≡ None) × (whole ≡ false)
decided_open (Some fault) whole body going = absurd (cc)
decided_open None true body going = absurd (cc)
decided_open None false body going = (refl, refl)

-- words that are judged and without a verdict: a block more is asked for
judged_open : (slot : ℕ) (words : List ℕ) → is_judged (length words) ≡ true → verdict slot words ≡ None → HasWord words (length words)
judged_open slot words here going =
    let count = length words in
    let b = blocks_in count in
    let with_blocks : verdict_with slot words b ≡ None = sym (verdict_is slot words ∙ ap (λ t. cond t (verdict_with slot words b) None) here) ∙ going in
    let d = decided_open (first_refusal (judged slot words b)) (leb (blocks words) b) (body_of (input_of words) (out_len words)) with_blocks in
    let kept = (kept_parts (rules_before slot words b) _ d.0).0 in
    let lengths = lengths_kept words (entry_before slot words b kept) in
    let more : b < blocks words = leb-false (blocks words) b d.1 in
    let parts = and_parts (leb 8 count) (eqb ((count - 8) % 72) 0) here in
    let least : 8 ≤ count = leb-true 8 count parts.0 in
    let even : (count - 8) % 72 ≡ 0 = eqb-true ((count - 8) % 72) 0 parts.1 in
    record {
      entry = λ h. h;
      few_inputs = λ h. omega (arith, lengths.in_most);
      few_outputs = λ h. omega (arith, lengths.out_most);
      inside = λ h. omega (arith, more, least, even);
    }

-- the next word of a question without a verdict
pub next_word : (slot : ℕ) (words : List ℕ) (word : ℕ) → HasWord words (length words) → verdict slot (words ++ word ∷ []) ≡ None → HasWord (words ++ word ∷ []) (length words + 1)
next_word slot words word has going = elim (cases_Bool (is_judged (length more))) [
  | inl here ↦ subst (HasWord more) long (judged_open slot more here going)
  | inr between ↦ elim (cases_lt (length words) 8) [
    | inl few ↦ first_words between few
    | inr some ↦ later_words between some
  ]
] where
  more : List ℕ
  more = words ++ word ∷ []

  long : length more ≡ length words + 1
  long = length-append words (word ∷ [])

  not_judged : is_judged (length more) ≡ false → (n : ℕ) → length words + 1 ≡ n → is_judged n ≡ true → ⊥
  not_judged between n same here = true_not_false (sym (ap is_judged (long ∙ same) ∙ here) ∙ between)

  first_words : is_judged (length more) ≡ false → length words < 8 → HasWord more (length words + 1)
  first_words between few =
      let fewer : 8 ≤ length words + 1 → ⊥ = λ h. not_judged between 8 (omega (arith, few, h)) refl in
      record {
        entry = λ h. absurd (fewer h);
        few_inputs = λ h. absurd (fewer h);
        few_outputs = λ h. absurd (fewer h);
        inside = λ h. absurd (fewer h);
      }

  later_words : is_judged (length more) ≡ false → 8 ≤ length words → HasWord more (length words + 1)
  later_words between some =
      let entry : entry_of more ≡ entry_of words = ap bytes_of (take-append-le 8 words (word ∷ []) some) in
      let in_same : inputs more ≡ inputs words = ap (λ e. blocks_of (field_value e 32 32 - 16)) entry in
      let out_same : outputs more ≡ outputs words = ap (λ e. blocks_of (field_value e 448 32 - 16)) entry in
      let end : length words + 1 < 8 + 72 * blocks words = elim (cases_lt (length words + 1) (8 + 72 * blocks words)) [
        | inl before ↦ before
        | inr last ↦
            let whole : length words + 1 ≡ 8 + 72 * blocks words = omega (arith, last, has.inside some) in
            absurd (not_judged between (8 + 72 * blocks words) whole (and_from _ _ (le-leb 8 (8 + 72 * blocks words) (omega arith)) (eq-eqb ((8 + 72 * blocks words - 8) % 72) 0 (omega arith))))
      ] in
      record {
        entry = λ h. omega (arith, long, h);
        few_inputs = λ h. omega (arith, in_same, has.few_inputs some);
        few_outputs = λ h. omega (arith, out_same, has.few_outputs some);
        inside = λ h. omega (arith, end, in_same, out_same);
      }

-- what is judged has an entry, and a refusal lists no pages
decided_short : (refusal : Option Delivery) (whole : Bool) (body question : Result Command Answer) → HasShort body → decided refusal whole body ≡ Some question → HasShort question
decided_short (Some fault) whole body question short is = subst HasShort (is_question (Err (Refused fault)) question is) tt
decided_short None true body question short is = subst HasShort (is_question body question is) short
decided_short None false body question short is = absurd (cc)

row_short : {Row : Type 0} → (command_in : Row → Command) (refusal : Option BodyFault) (row : Option Row) → HasShort (body_with command_in refusal row)
row_short command_in (Some fault) row = omega arith
row_short command_in None None = omega arith
row_short command_in None (Some row) = tt

body_short : (input : List ℕ) (wanted : ℕ) → HasShort (body_of input wanted)
unfolding body_of
body_short input wanted = row_short (λ row. command_at row input) (first_refusal (body_rules input wanted)) (kind_of_code (code_at input))

-- what a verdict tells
pub record IsVerdict (words : List ℕ) (question : Result Command Answer) : Type 0 where
  pub entry : 8 ≤ length words
  pub short : HasShort question

pub verdict_given : (slot : ℕ) (words : List ℕ) (question : Result Command Answer) → verdict slot words ≡ Some question → IsVerdict words question
verdict_given slot words question is = elim (cases_Bool (is_judged (length words))) [
  | inl here ↦
      let b = blocks_in (length words) in
      let with_blocks : verdict_with slot words b ≡ Some question = sym (verdict_is slot words ∙ ap (λ t. cond t (verdict_with slot words b) None) here) ∙ is in
      record {
        entry = leb-true 8 (length words) (and_parts (leb 8 (length words)) (eqb ((length words - 8) % 72) 0) here).0;
        short = decided_short (first_refusal (judged slot words b)) (leb (blocks words) b) (body_of (input_of words) (out_len words)) question (body_short (input_of words) (out_len words)) with_blocks;
      }
  | inr between ↦ absurd (none_or_some (sym (verdict_is slot words ∙ ap (λ t. cond t (verdict_with slot words (blocks_in (length words))) None) between) ∙ is))
] where
  none_or_some : {A : Type 0} {x : A} → ◌≡◌ {A = Option A} None (Some x) → ⊥
  none_or_some same = cc

-- what was judged may be answered with what it came to
can_answer : (entry : List ℕ) (question : Result Command Answer) → CanAnswer (Judged entry question) (Done (done_of question))
can_answer entry (Ok c) = λ reply fits. fits
can_answer entry (Err refusal) = refl

-- the device loads a word of a question
module _ (slot answered count word : ℕ) (loaded_words : List ℕ) (full : length loaded_words ≡ 296) (reading : IsReading answered (take count loaded_words) count) where
  abbrev words : List ℕ
  words = take count loaded_words

  abbrev next : List ℕ
  next = take (count + 1) (slice_set loaded_words count word)

  short : length words ≡ count
  short = length-take-le count loaded_words (omega (arith, full, reading.few))

  pub next_is : next ≡ words ++ word ∷ []
  next_is = take-set_at loaded_words count (count + 1) word refl (omega (arith, full, reading.few))

  has : HasWord words (length words)
  has = subst (HasWord words) (sym short) reading.next

  pub reads_more : verdict slot next ≡ None → IsReading answered next (count + 1)
  reads_more going =
      let there : HasWord (words ++ word ∷ []) (length words + 1) = next_word slot words word has (ap (verdict slot) (sym next_is) ∙ going) in
      let there_next : HasWord next (count + 1) = subst (λ (ws : List ℕ). HasWord ws (count + 1)) (sym next_is) (subst (λ (n : ℕ). HasWord (words ++ word ∷ []) (n + 1)) short there) in
      record { low = reading.low; few = few there_next; next = there_next } where
        few : HasWord next (count + 1) → count + 1 < 296
        few there = elim (cases_lt (count + 1) 8) [
          | inl first ↦ omega (arith, first)
          | inr later ↦ omega (arith, there.few_inputs later, there.few_outputs later, there.inside later)
        ]

  pub reads_judged : (question : Result Command Answer) → verdict slot next ≡ Some question → IsJudged answered question
  reads_judged question is = record { low = reading.low; short = (verdict_given slot next question is).short }

  -- a turn that comes to a verdict, as its caller sees it
  module _ (slot_seen : ℕ) (question : Result Command Answer) (is : verdict slot next ≡ Some question) (e : BusEntry) (load : IsLoad (question_word slot words count) e) (inside : touches e.addr ≡ true) (word_is : loaded e ≡ word) where
    abbrev before : DeviceView
    before = record { slot = slot; side = record { answered = answered; stage = Reading words }; task = Some Read; seen = slot_seen }

    abbrev after : Result Command Answer → DeviceView
    after kept = record { slot = slot; side = record { answered = answered; stage = Judged (take 8 (slice_set loaded_words count word)) kept }; task = None; seen = answered + 1 }

    given : IsVerdict next question
    given = verdict_given slot next question is

    read_is : words ++ loaded e ∷ [] ≡ next
    read_is = ap (λ w. words ++ w ∷ []) word_is ∙ sym next_is

    verdict_here : verdict slot (words ++ loaded e ∷ []) ≡ Some question
    verdict_here = ap (verdict slot) read_is ∙ is

    entry_is : take 8 (words ++ loaded e ∷ []) ≡ take 8 (slice_set loaded_words count word)
    entry_is =
        let least : 8 ≤ count + 1 = omega (arith, given.entry, length-take-le (count + 1) (slice_set loaded_words count word) (omega (arith, full, reading.few, length-set loaded_words count word))) in
        ap (take 8) read_is ∙ take-take 8 (count + 1) (slice_set loaded_words count word) least

    judged_turn : DeviceTurn before (after question) e (Done (done_of question))
    judged_turn = record {
      may = subst (λ (n : ℕ). IsLoad (question_word slot words n) e) (sym short) load;
      inside = inside;
      side = sym (ap (λ v. record { answered = answered; stage = judged_as (words ++ loaded e ∷ []) v }) verdict_here ∙ ap (λ entry. record { answered = answered; stage = Judged entry question }) entry_is);
      answers = sym (ap judged_answer verdict_here);
      task = refl;
      can_answer = can_answer (take 8 (slice_set loaded_words count word)) question;
      fewer = omega (arith, short, reading.few);
      seen = refl;
      slot = refl;
    }

    pub turn_judged : (d : DeviceView) → before ≡ d → (kept : Result Command Answer) → kept ≡ question → (done : SlotDone) → done ≡ done_of question → DeviceTurn d (after kept) e (Done done)
    turn_judged d same kept kept_is done done_is =
        subst (λ (v : DeviceView). DeviceTurn v (after kept) e (Done done)) same
        (subst (λ (q : Result Command Answer). DeviceTurn before (after q) e (Done done)) (sym kept_is)
        (subst (λ (x : SlotDone). DeviceTurn before (after question) e (Done x)) (sym done_is) judged_turn))
