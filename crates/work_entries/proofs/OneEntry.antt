-- The words of an entry are known from what it says.
use Rattle.std.proofs.Common.{◌≡◌, ℕ, zero, suc, ◌+◌, ◌-◌, ◌*◌, ◌/◌, ◌%◌, ◌^◌, ◌<◌, ◌≤◌, ◌==◌, List, [], ◌∷◌, ◌++◌, length, take, drop, slice_index, refl, sym, ap, ◌∙◌, ⊎_elim, subst, arith, append-nil}
use Rattle.std.specs.Int.{w64, from_be_bytes}
use Rattle.std.proofs.lemmas.Bool.{and_parts, cases_eq, cases_lt, eqb-true}
use Rattle.std.proofs.lemmas.List.{drop_at, get_or-append_right, get_or_append_left, length-take-le, take-append-drop, take_at}
use Rattle.std.proofs.lemmas.Nat.{from_be_bytes-to_be_bytes_8, mod_below}
use Rattle.prm_fields.specs.Bits.{field_value}
use Rattle.prm_fields.specs.Layout.{layout_length}
use Rattle.prm_fields.specs.Spelling.{IsBytesOf, Spells}
use Rattle.prm_fields.specs.declared.layout.FieldName.{FieldName}
use Rattle.prm_fields.specs.declared.layout.LayoutName.{LayoutName}
use Rattle.prm_fields.specs.declared.layout.LayoutName.TheVariants.{Ctrl, Raddr, Atomic, DataUnit, Inline as InlineLayout}
use Rattle.prm_fields.proofs.Parts.{field_value-take}
use Rattle.prm_fields.proofs.Spelling.{one_spelling}
use Rattle.verbs_types.specs.declared.request.Op.{Op}
use Rattle.verbs_types.specs.declared.request.Op.TheVariants.{Nop as NopOp, Send as SendOp, SendImm as SendImmOp, Write, WriteImm, Read, Cas, Faa}
use Rattle.verbs_types.specs.declared.request.Sge.{Sge}
use Rattle.work_entries.specs.declared.sent.Sent.{Sent}
use Rattle.work_entries.specs.declared.sent.SentBody.{SentBody}
use Rattle.work_entries.specs.declared.sent.SentBody.TheVariants.{Sges, Inline}
use Rattle.work_entries.specs.declared.units.SendWords.{SendWords}
use Rattle.work_entries.specs.Opcode.{opcode_of, fixed_units}
use Rattle.work_entries.specs.Unit.{unit, units, word_bytes}
use Rattle.work_entries.specs.Control.{control_values}
use Rattle.work_entries.specs.Operation.{HasOperands, HasOperation, HasRemote, operand_values, remote_values}
use Rattle.work_entries.specs.Body.{HasBody, HasInline, HasSegments, body_units, inline_units, inline_values, segment_values}
use Rattle.work_entries.specs.Send.{IsSend, control_of, units_of}
use Rattle.work_entries.specs.Laws.{AreWords, HaveSameWords}
use Rattle.work_entries.proofs.Words.{length-unit, length-units, length-word_bytes, small_part, units_front}

-- bytes of words

small_word : (word i : ℕ) → slice_index (word_bytes word) i < 256
unfolding word_bytes
small_word word zero = mod_below _ 256 (omega arith)
small_word word (suc zero) = mod_below _ 256 (omega arith)
small_word word (suc (suc zero)) = mod_below _ 256 (omega arith)
small_word word (suc (suc (suc zero))) = mod_below _ 256 (omega arith)
small_word word (suc (suc (suc (suc zero)))) = mod_below _ 256 (omega arith)
small_word word (suc (suc (suc (suc (suc zero))))) = mod_below _ 256 (omega arith)
small_word word (suc (suc (suc (suc (suc (suc zero)))))) = mod_below _ 256 (omega arith)
small_word word (suc (suc (suc (suc (suc (suc (suc zero))))))) = mod_below _ 256 (omega arith)
small_word word (suc (suc (suc (suc (suc (suc (suc (suc i)))))))) = omega arith

same_word : (a b : ℕ) → a < 2 ^ 64 → b < 2 ^ 64 → word_bytes a ≡ word_bytes b → a ≡ b
unfolding word_bytes
same_word a b small_a small_b same = sym (from_be_bytes-to_be_bytes_8 a small_a) ∙ ap (from_be_bytes w64) same ∙ from_be_bytes-to_be_bytes_8 b small_b

-- bytes that are small on both sides are small together
small_append : (a b : List ℕ) → ((i : ℕ) → slice_index a i < 256) → ((i : ℕ) → slice_index b i < 256) → (i : ℕ) → slice_index (a ++ b) i < 256
small_append a b small_a small_b i =
    ⊎_elim
    (λ (left : i < length a). rw (get_or_append_left a b 0 i left) (small_a i))
    (λ (right : length a ≤ i). rw (get_or-append_right a b (length a) i 0 refl right) (small_b (i - length a)))
    (cases_lt i (length a))

small_unit : (words : List ℕ) (k i : ℕ) → slice_index (unit words k) i < 256
unfolding unit
small_unit words k i =
    small_append (word_bytes (slice_index words (2 * k))) (word_bytes (slice_index words (2 * k + 1))) (small_word (slice_index words (2 * k))) (small_word (slice_index words (2 * k + 1))) i

small_units : (words : List ℕ) (k count i : ℕ) → slice_index (units words k count) i < 256
small_units words k zero i = omega arith
small_units words k (suc count) i = small_append (unit words k) (units words (suc k) count) (small_unit words k) (small_units words (suc k) count) i

-- units

-- words are known from their units
words_of_unit : (v w : List ℕ) (j : ℕ) → AreWords v → AreWords w → unit v j ≡ unit w j → (slice_index v (2 * j) ≡ slice_index w (2 * j)) × (slice_index v (2 * j + 1) ≡ slice_index w (2 * j + 1))
unfolding unit
words_of_unit v w j words_v words_w same =
    let high_v = slice_index v (2 * j) in
    let high_w = slice_index w (2 * j) in
    let low_v = slice_index v (2 * j + 1) in
    let low_w = slice_index w (2 * j + 1) in
    let high : word_bytes high_v ≡ word_bytes high_w =
    sym (take_at (word_bytes high_v) (word_bytes low_v) 8 (length-word_bytes high_v)) ∙ ap (take 8) same ∙ take_at (word_bytes high_w) (word_bytes low_w) 8 (length-word_bytes high_w) in
    let low : word_bytes low_v ≡ word_bytes low_w =
    sym (drop_at (word_bytes high_v) (word_bytes low_v) 8 (length-word_bytes high_v)) ∙ ap (drop 8) same ∙ drop_at (word_bytes high_w) (word_bytes low_w) 8 (length-word_bytes high_w) in
    (same_word high_v high_w (words_v (2 * j)) (words_w (2 * j)) high, same_word low_v low_w (words_v (2 * j + 1)) (words_w (2 * j + 1)) low)

-- a unit is known from what it spells
same_unit : (layout : LayoutName) (values : FieldName → ℕ) (v w : List ℕ) (j : ℕ) → layout_length layout ≡ 16 → Spells layout values (unit v j) → Spells layout values (unit w j) → unit v j ≡ unit w j
same_unit layout values v w j long has_v has_w =
    let bytes : (words : List ℕ) → IsBytesOf layout (unit words j) = λ words. record { long = length-unit words j ∙ sym long; small = small_unit words j } in
    one_spelling layout values (unit v j) (unit w j) (bytes v) (bytes w) has_v has_w

-- units are known from their bytes
units_apart : (v w : List ℕ) (k count : ℕ) → units v k count ≡ units w k count → (j : ℕ) → k ≤ j → j < k + count → unit v j ≡ unit w j
units_apart v w k zero same j low high = absurd (omega arith)
units_apart v w k (suc count) same j low high =
    let first : unit v k ≡ unit w k =
    sym (take_at (unit v k) (units v (suc k) count) 16 (length-unit v k)) ∙ ap (take 16) same ∙ take_at (unit w k) (units w (suc k) count) 16 (length-unit w k) in
    let rest : units v (suc k) count ≡ units w (suc k) count =
    sym (drop_at (unit v k) (units v (suc k) count) 16 (length-unit v k)) ∙ ap (drop 16) same ∙ drop_at (unit w k) (units w (suc k) count) 16 (length-unit w k) in
    ⊎_elim
    (λ (here : k ≡ j). subst (λ (i : ℕ). unit v i ≡ unit w i) here first)
    (λ (apart : k ≡ j → ⊥). units_apart v w (suc k) count rest j (omega arith) (omega arith))
    (cases_eq k j)

-- the parts of an entry

same_remote : (raddr rkey : ℕ) (v w : List ℕ) → HasRemote raddr rkey v → HasRemote raddr rkey w → (j : ℕ) → 1 ≤ j → j < 2 → unit v j ≡ unit w j
same_remote raddr rkey v w has_v has_w j low high =
    let here : 1 ≡ j = omega arith in
    subst (λ (i : ℕ). unit v i ≡ unit w i) here (same_unit Raddr (remote_values raddr rkey) v w 1 refl has_v has_w)

same_atomic : (raddr rkey swap_or_add compare : ℕ) (v w : List ℕ) → HasRemote raddr rkey v → HasRemote raddr rkey w → HasOperands swap_or_add compare v → HasOperands swap_or_add compare w
    → (j : ℕ) → 1 ≤ j → j < 3 → unit v j ≡ unit w j
same_atomic raddr rkey swap_or_add compare v w remote_v remote_w operands_v operands_w j low high =
    ⊎_elim
    (λ (first : j < 2). same_remote raddr rkey v w remote_v remote_w j low first)
    (λ (second : 2 ≤ j).
    let here : 2 ≡ j = omega arith in
    subst (λ (i : ℕ). unit v i ≡ unit w i) here (same_unit Atomic (operand_values swap_or_add compare) v w 2 refl operands_v operands_w))
    (cases_lt j 2)

same_operation : (op : Op) (v w : List ℕ) → HasOperation op v → HasOperation op w → (j : ℕ) → 1 ≤ j → j < fixed_units (opcode_of op) → unit v j ≡ unit w j
same_operation NopOp v w has_v has_w j low high = absurd (omega arith)
same_operation SendOp v w has_v has_w j low high = absurd (omega arith)
same_operation (SendImmOp imm) v w has_v has_w j low high = absurd (omega arith)
same_operation (Write raddr rkey) v w has_v has_w j low high = same_remote raddr rkey v w has_v has_w j low high
same_operation (WriteImm raddr rkey imm) v w has_v has_w j low high = same_remote raddr rkey v w has_v has_w j low high
same_operation (Read raddr rkey) v w has_v has_w j low high = same_remote raddr rkey v w has_v has_w j low high
same_operation (Cas raddr rkey compare swap) v w has_v has_w j low high = same_atomic raddr rkey swap compare v w has_v.0 has_w.0 has_v.1 has_w.1 j low high
same_operation (Faa raddr rkey add) v w has_v has_w j low high = same_atomic raddr rkey add 0 v w has_v.0 has_w.0 has_v.1 has_w.1 j low high

same_segments : (sges : List Sge) (v w : List ℕ) (k : ℕ) → HasSegments sges v k → HasSegments sges w k → (j : ℕ) → k ≤ j → j < k + length sges → unit v j ≡ unit w j
same_segments [] v w k has_v has_w j low high = absurd (omega arith)
same_segments (sge ∷ sges) v w k has_v has_w j low high =
    ⊎_elim
    (λ (here : k ≡ j). subst (λ (i : ℕ). unit v i ≡ unit w i) here (same_unit DataUnit (segment_values sge) v w k refl has_v.0 has_w.0))
    (λ (apart : k ≡ j → ⊥). same_segments sges v w (suc k) has_v.1 has_w.1 j (omega arith) (omega arith))
    (cases_eq k j)

-- the head of an inline segment as four bytes
module _ (bytes words : List ℕ) (k : ℕ) (has : HasInline bytes words k) where
  head : List ℕ
  head = take 4 (units words k (inline_units (length bytes)))

  head_bytes : IsBytesOf InlineLayout head
  unfolding head
  head_bytes = record {
    long = length-take-le 4 (units words k (inline_units (length bytes))) (omega (arith, length-units words k (inline_units (length bytes))));
    small = small_part (units words k (inline_units (length bytes))) 0 4 (small_units words k (inline_units (length bytes)));
  }

  head_spelled : Spells InlineLayout (inline_values (length bytes)) head
  unfolding head
  head_spelled =
      let whole = units words k (inline_units (length bytes)) in
      let seen : (first width : ℕ) → first + width ≤ 32 → field_value (take 4 whole) first width ≡ field_value (unit words k) first width =
      λ first width inside.
      field_value-take whole 4 first width inside
      ∙ sym (field_value-take whole 16 first width (omega arith))
      ∙ ap (λ b. field_value b first width) (units_front words k 1 (inline_units (length bytes)) (omega arith) ∙ append-nil (unit words k)) in
      (seen 0 1 (omega arith) ∙ has.head.0, (seen 1 31 (omega arith) ∙ has.head.1.0, tt))

same_inline : (bytes v w : List ℕ) (k : ℕ) → HasInline bytes v k → HasInline bytes w k → units v k (inline_units (length bytes)) ≡ units w k (inline_units (length bytes))
unfolding head
same_inline bytes v w k has_v has_w =
    let count = inline_units (length bytes) in
    let front : take 4 (units v k count) ≡ take 4 (units w k count) =
    one_spelling InlineLayout (inline_values (length bytes)) (head bytes v k has_v) (head bytes w k has_w) (head_bytes bytes v k has_v) (head_bytes bytes w k has_w) (head_spelled bytes v k has_v) (head_spelled bytes w k has_w) in
    sym (take-append-drop 4 (units v k count))
    ∙ ap (λ f. f ++ drop 4 (units v k count)) front
    ∙ ap (λ r. take 4 (units w k count) ++ r) (has_v.rest ∙ sym has_w.rest)
    ∙ take-append-drop 4 (units w k count)

same_data : (body : SentBody) (v w : List ℕ) (k : ℕ) → HasBody body v k → HasBody body w k → (j : ℕ) → k ≤ j → j < k + body_units body → unit v j ≡ unit w j
same_data (Sges sges) v w k has_v has_w j low high = same_segments sges v w k has_v has_w j low high
same_data (Inline bytes) v w k has_v has_w j low high = units_apart v w k (inline_units (length bytes)) (same_inline bytes v w k has_v has_w) j low high

-- the whole

module _ (s : Sent) (v w : SendWords) (words_v : AreWords v.words) (words_w : AreWords w.words) (is_v : IsSend s v) (is_w : IsSend s w) where
  used : (j : ℕ) → j < units_of s → unit v.words j ≡ unit w.words j
  used j high =
      let first = fixed_units (opcode_of s.op) in
      ⊎_elim
      (λ (control : j ≡ 0). rw control (same_unit Ctrl (control_values (control_of s)) v.words w.words 0 refl is_v.control is_w.control))
      (λ (behind : j ≡ 0 → ⊥).
      ⊎_elim
      (λ (inside : j < first). same_operation s.op v.words w.words is_v.operation is_w.operation j (omega arith) inside)
      (λ (carried : first ≤ j). same_data s.body v.words w.words first is_v.body is_w.body j carried high)
      (cases_lt j first))
      (cases_eq j 0)

  blocks : v.blocks ≡ w.blocks
  blocks = is_v.blocks ∙ sym is_w.blocks

  pair : (j : ℕ) → j < 4 * v.blocks → (slice_index v.words (2 * j) ≡ slice_index w.words (2 * j)) × (slice_index v.words (2 * j + 1) ≡ slice_index w.words (2 * j + 1))
  pair j inside =
      ⊎_elim
      (λ (part : j < units_of s). words_of_unit v.words w.words j words_v words_w (used j part))
      (λ (left : units_of s ≤ j).
      let clear_v = and_parts (slice_index v.words (2 * j) == 0) (slice_index v.words (2 * j + 1) == 0) (is_v.unused j left inside) in
      let clear_w = and_parts (slice_index w.words (2 * j) == 0) (slice_index w.words (2 * j + 1) == 0) (is_w.unused j left (omega (arith, blocks))) in (
        eqb-true (slice_index v.words (2 * j)) 0 clear_v.0 ∙ sym (eqb-true (slice_index w.words (2 * j)) 0 clear_w.0),
        eqb-true (slice_index v.words (2 * j + 1)) 0 clear_v.1 ∙ sym (eqb-true (slice_index w.words (2 * j + 1)) 0 clear_w.1),
      ))
      (cases_lt j (units_of s))

  pub same_entry : (v.blocks ≡ w.blocks) × HaveSameWords (8 * v.blocks) v.words w.words
  same_entry = (
    blocks,
    λ k inside.
        let both = pair (k / 2) (omega arith) in
        ⊎_elim
        (λ (even : k % 2 ≡ 0).
        let place : 2 * (k / 2) ≡ k = omega arith in
        subst (λ (i : ℕ). slice_index v.words i ≡ slice_index w.words i) place both.0)
        (λ (odd : k % 2 ≡ 0 → ⊥).
        let place : 2 * (k / 2) + 1 ≡ k = omega arith in
        subst (λ (i : ℕ). slice_index v.words i ≡ slice_index w.words i) place both.1)
        (cases_eq (k % 2) 0),
  )
