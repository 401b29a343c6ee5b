-- The addresses of a question's words, of an answer's and of what a host reads of it: they are the slot's own, and apart.
use Rattle.std.proofs.Common.{◌≡◌, ◌≢◌, ℕ, ◌+◌, ◌-◌, ◌*◌, ◌/◌, ◌%◌, ◌<◌, ◌≤◌, ◌⊎◌, inl, inr, refl, ap, sym, ◌∙◌, subst, arith, true, eqb, ltb, leb, ◌&&◌, List, length}
use Rattle.std.proofs.lemmas.Bool.{cases_lt, lt-ltb, le-ltb, le-leb, ne_eqb, and_from, or_left, or_right}
use Rattle.cmd_slots.specs.Place.{IsSlot, bits_word, entry_word, block_word, touches}
use Rattle.cmd_slots.specs.Question.{question_word, block_in_slot, inputs, outputs, blocks}
use Rattle.cmd_slots.specs.Answer.{answer_word, output_word}
use Rattle.cmd_slots.specs.Turn.{IsShape, HasWord}

-- the words of one slot: its entry and its blocks
abbrev pub IsOwn : ℕ → ℕ → Type 0
IsOwn slot x = ((512 + 8 * slot ≤ x) × (x < 520 + 8 * slot)) ⊎ ((1024 + 512 * slot ≤ x) × (x < 1536 + 512 * slot))

pub entry_own : (slot k : ℕ) → k < 8 → IsOwn slot (entry_word slot k)
entry_own slot k low = inl (omega arith, omega arith)

pub block_own : (slot j k : ℕ) → j < 4 → k < 72 → IsOwn slot (block_word slot j k)
block_own slot j k block low = inr (omega arith, omega arith)

-- no word is two slots' own
pub own_apart : (a b x : ℕ) → IsSlot a → IsSlot b → a ≢ b → IsOwn a x → IsOwn b x → ⊥
own_apart a b x slot_a slot_b differ own_a own_b =
    elim own_a [
      | inl e ↦ elim own_b [ inl f ↦ differ (omega arith) | inr f ↦ absurd (omega arith) ]
      | inr e ↦ elim own_b [ inl f ↦ absurd (omega arith) | inr f ↦ differ (omega arith) ]
    ]

pub own_not_bits : (slot x : ℕ) → IsOwn slot x → bits_word ≢ x
own_not_bits slot x own same = elim own [ inl e ↦ omega arith | inr e ↦ omega arith ]

pub touches_bits : touches bits_word ≡ true
touches_bits = refl

pub touches_own : (slot x : ℕ) → IsSlot slot → IsOwn slot x → touches x ≡ true
touches_own slot x ok own = elim own [
  | inl e ↦ or_right (eqb x bits_word) _ (or_left (leb 512 x && ltb x 768) _ (and_from _ _ (le-leb 512 x (omega arith)) (lt-ltb x 768 (omega arith))))
  | inr e ↦ or_right (eqb x bits_word) _ (or_right (leb 512 x && ltb x 768) _ (and_from _ _ (le-leb 1024 x (omega arith)) (lt-ltb x 17408 (omega arith))))
]

entries_apart : (slot k l : ℕ) → k ≢ l → entry_word slot k ≢ entry_word slot l
entries_apart slot k l differ same = differ (omega arith)

blocks_apart : (slot i j k l : ℕ) → k < 72 → l < 72 → (i ≡ j → k ≢ l) → block_word slot i k ≢ block_word slot j l
blocks_apart slot i j k l low_k low_l differ same = differ (omega arith) (omega arith)

entry_not_block : (slot k j l : ℕ) → IsSlot slot → k < 8 → entry_word slot k ≢ block_word slot j l
entry_not_block slot k j l ok low same = absurd (omega arith)

-- the blocks of a question
in_slot_low : (inputs b : ℕ) → b < inputs → block_in_slot inputs b ≡ b
in_slot_low inputs b h = rw (lt-ltb b inputs h) refl

in_slot_high : (inputs b : ℕ) → inputs ≤ b → block_in_slot inputs b ≡ 2 + (b - inputs)
in_slot_high inputs b h = rw (le-ltb b inputs h) refl

in_slot_few : (inputs outputs b : ℕ) → inputs ≤ 2 → outputs ≤ 2 → b < inputs + outputs → block_in_slot inputs b < 4
in_slot_few inputs outputs b few_in few_out low = elim (cases_lt b inputs) [
  | inl h ↦ omega (arith, in_slot_low inputs b h)
  | inr h ↦ omega (arith, in_slot_high inputs b h)
]

in_slot_apart : (inputs a b : ℕ) → inputs ≤ 2 → a ≢ b → block_in_slot inputs a ≢ block_in_slot inputs b
in_slot_apart inputs a b few differ same = elim (cases_lt a inputs) [
  | inl h ↦ elim (cases_lt b inputs) [
    | inl k ↦ differ (omega (arith, same, in_slot_low inputs a h, in_slot_low inputs b k))
    | inr k ↦ absurd (omega (arith, same, in_slot_low inputs a h, in_slot_high inputs b k))
  ]
  | inr h ↦ elim (cases_lt b inputs) [
    | inl k ↦ absurd (omega (arith, same, in_slot_high inputs a h, in_slot_low inputs b k))
    | inr k ↦ differ (omega (arith, same, in_slot_high inputs a h, in_slot_high inputs b k))
  ]
]

pub question_entry : (slot : ℕ) (words : List ℕ) (p : ℕ) → p < 8 → question_word slot words p ≡ entry_word slot p
unfolding question_word
question_entry slot words p low = rw (lt-ltb p 8 low) refl

pub question_block : (slot : ℕ) (words : List ℕ) (p : ℕ) → 8 ≤ p → question_word slot words p ≡ block_word slot (block_in_slot (inputs words) ((p - 8) / 72)) ((p - 8) % 72)
unfolding question_word
question_block slot words p high = rw (le-ltb p 8 high) refl

module _ (slot : ℕ) (words : List ℕ) (shape : IsShape words) where
  pub question_own : (p : ℕ) → p < length words → IsOwn slot (question_word slot words p)
  question_own p inside = elim (cases_lt p 8) [
    | inl h ↦ subst (IsOwn slot) (sym (question_entry slot words p h)) (entry_own slot p h)
    | inr h ↦ subst (IsOwn slot) (sym (question_block slot words p h)) (block_own slot _ _ (in_slot_few (inputs words) (outputs words) ((p - 8) / 72) shape.few_inputs shape.few_outputs (omega (arith, shape.long))) (omega arith))
  ]

  pub question_apart : IsSlot slot → (p q : ℕ) → p < length words → q < length words → p ≢ q → question_word slot words p ≢ question_word slot words q
  question_apart ok p q in_p in_q differ same = elim (cases_lt p 8) [
    | inl h ↦ elim (cases_lt q 8) [
      | inl k ↦ entries_apart slot p q differ (sym (question_entry slot words p h) ∙ same ∙ question_entry slot words q k)
      | inr k ↦ entry_not_block slot p _ _ ok h (sym (question_entry slot words p h) ∙ same ∙ question_block slot words q k)
    ]
    | inr h ↦ elim (cases_lt q 8) [
      | inl k ↦ entry_not_block slot q _ _ ok k (sym (question_entry slot words q k) ∙ sym same ∙ question_block slot words p h)
      | inr k ↦ blocks_apart slot _ _ ((p - 8) % 72) ((q - 8) % 72) (omega arith) (omega arith)
          (λ blocks parts. in_slot_apart (inputs words) ((p - 8) / 72) ((q - 8) / 72) shape.few_inputs (λ b. differ (omega (arith, b, parts))) blocks)
          (sym (question_block slot words p h) ∙ same ∙ question_block slot words q k)
    ]
  ]

pub answer_head : (slot p : ℕ) → p < 2 → answer_word slot p ≡ entry_word slot (4 + p)
unfolding answer_word
answer_head slot p low = rw (lt-ltb p 2 low) refl

pub answer_last : (slot : ℕ) → answer_word slot 2 ≡ entry_word slot 7
unfolding answer_word
answer_last slot = refl

pub answer_block : (slot p : ℕ) → 3 ≤ p → answer_word slot p ≡ block_word slot (2 + (p - 3) / 72) ((p - 3) % 72)
unfolding answer_word
answer_block slot p high = rw (le-ltb p 2 (omega arith), ne_eqb p 2 (λ s. omega (arith, s))) refl

-- the first three words of an answer are in the entry
answer_entry : (slot p : ℕ) → p < 3 → answer_word slot p ≡ entry_word slot (4 + p + p / 2)
answer_entry slot p low = elim (cases_lt p 2) [
  | inl h ↦ answer_head slot p h ∙ ap (entry_word slot) (omega arith)
  | inr h ↦ let two : p ≡ 2 = omega arith in rw two (answer_last slot)
]

pub answer_own : (slot p : ℕ) → p < 147 → IsOwn slot (answer_word slot p)
answer_own slot p inside = elim (cases_lt p 3) [
  | inl h ↦ subst (IsOwn slot) (sym (answer_entry slot p h)) (entry_own slot _ (omega arith))
  | inr h ↦ subst (IsOwn slot) (sym (answer_block slot p h)) (block_own slot _ _ (omega arith) (omega arith))
]

pub answer_apart : (slot p q : ℕ) → IsSlot slot → p ≢ q → answer_word slot p ≢ answer_word slot q
answer_apart slot p q ok differ same = elim (cases_lt p 3) [
  | inl h ↦ elim (cases_lt q 3) [
    | inl k ↦ entries_apart slot (4 + p + p / 2) (4 + q + q / 2) (λ s. differ (omega (arith, s))) (sym (answer_entry slot p h) ∙ same ∙ answer_entry slot q k)
    | inr k ↦ entry_not_block slot _ _ _ ok (omega arith) (sym (answer_entry slot p h) ∙ same ∙ answer_block slot q k)
  ]
  | inr h ↦ elim (cases_lt q 3) [
    | inl k ↦ entry_not_block slot _ _ _ ok (omega arith) (sym (answer_entry slot q k) ∙ sym same ∙ answer_block slot p h)
    | inr k ↦ blocks_apart slot _ _ ((p - 3) % 72) ((q - 3) % 72) (omega arith) (omega arith) (λ blocks parts. differ (omega (arith, blocks, parts))) (sym (answer_block slot p h) ∙ same ∙ answer_block slot q k)
  ]
]

-- what a host reads stands where the device stored it
pub output_head : (slot k : ℕ) → k < 2 → output_word slot k ≡ answer_word slot k
unfolding output_word
output_head slot k low = rw (lt-ltb k 2 low) (sym (answer_head slot k low))

pub output_listed : (slot k : ℕ) → output_word slot (2 + k) ≡ answer_word slot (3 + (72 * (k / 64) + k % 64))
unfolding output_word
output_listed slot k =
    let rest : 2 + k - 2 ≡ k = omega arith in
    let block : (3 + (72 * (k / 64) + k % 64) - 3) / 72 ≡ k / 64 = omega arith in
    let part : (3 + (72 * (k / 64) + k % 64) - 3) % 72 ≡ k % 64 = omega arith in
    rw (le-ltb (2 + k) 2 (omega arith), rest) (sym (answer_block slot (3 + (72 * (k / 64) + k % 64)) (omega arith) ∙ rw (block, part) refl))

pub output_own : (slot k : ℕ) → k < 130 → IsOwn slot (output_word slot k)
output_own slot k low = elim (cases_lt k 2) [
  | inl h ↦ subst (IsOwn slot) (sym (output_head slot k h)) (answer_own slot k (omega arith))
  | inr h ↦
      let e : 2 + (k - 2) ≡ k = omega arith in
      subst (λ (n : ℕ). IsOwn slot (output_word slot n)) e (subst (IsOwn slot) (sym (output_listed slot (k - 2))) (answer_own slot _ (omega arith)))
]

-- all of them are the slots' words, below the end of the blocks
pub own_below : (slot x : ℕ) → IsSlot slot → IsOwn slot x → x < 17408
own_below slot x ok own = elim own [ inl e ↦ omega arith | inr e ↦ omega arith ]

pub word_own : (slot : ℕ) (words : List ℕ) (p : ℕ) → HasWord words p → IsOwn slot (question_word slot words p)
word_own slot words p has = elim (cases_lt p 8) [
  | inl h ↦ subst (IsOwn slot) (sym (question_entry slot words p h)) (entry_own slot p h)
  | inr h ↦ subst (IsOwn slot) (sym (question_block slot words p h)) (block_own slot _ _ (in_slot_few (inputs words) (outputs words) ((p - 8) / 72) (has.few_inputs h) (has.few_outputs h) (omega (arith, has.inside h))) (omega arith))
]
