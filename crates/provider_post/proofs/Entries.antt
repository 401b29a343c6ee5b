-- An entry has as many blocks as its first word says.
use Rattle.std.proofs.Common.{◌≡◌, ℕ, ◌+◌, ◌*◌, ◌/◌, ◌%◌, ◌^◌, ◌<◌, ◌≤◌, refl, sym, ap, ◌∙◌, subst, arith, true, false, cond, leb, List, ◌++◌, length, take, leb-true, inl, inr, Option, Some}
use Rattle.std.specs.Prelude.{slice_index}
use Rattle.std.proofs.lemmas.List.{get_or-take, get_or_past, length-take, length-take-le, take-append-le}
use Rattle.std.proofs.lemmas.Bool.{cond_both, cases_lt, leb-false}
use Rattle.prm_fields.proofs.Parts.{byte_value}
use Rattle.work_entries.specs.declared.opcode.Opcode.{Opcode}
use Rattle.work_entries.specs.declared.opcode.Opcode.TheVariants as opcodes
use Rattle.work_entries.specs.declared.sent.Sent.{Sent}
use Rattle.work_entries.specs.declared.sent.SentBody.{SentBody}
use Rattle.work_entries.specs.declared.sent.SentBody.TheVariants.{Sges, Inline}
use Rattle.work_entries.specs.declared.units.SendWords.{SendWords}
use Rattle.prm_fields.specs.declared.layout.LayoutName.TheVariants.{DataUnit}
use Rattle.prm_fields.specs.Spelling.{Spells}
use Rattle.verbs_types.specs.declared.request.Sge.{Sge}
use Rattle.work_entries.specs.Body.{MayCarry, body_units, segment_values}
use Rattle.work_entries.proofs.DataSegments.{segments_same}
use Rattle.work_entries.specs.Opcode.{opcode_of, fixed_units, most_data}
use Rattle.work_entries.specs.Send.{IsSend, units_of, sent_of}
use Rattle.work_entries.specs.Unit.{unit, word_bytes}
use Rattle.counted_ring.specs.declared.place.WqPlace.{WqPlace}
use Rattle.counted_ring.specs.Place.{is_send, span, unit_blocks, entry_words}
use Rattle.counted_ring.specs.PosterView.{Posting}
use Rattle.verbs_types.specs.declared.completion.Queue.TheVariants.{Send as OfSend, Recv as OfReceive}
use Rattle.verbs_types.specs.declared.request.Request.{Request}
use Rattle.verbs_types.specs.declared.request.Receive.{Receive}
use Rattle.verbs_types.specs.declared.request.Item.{Item}
use Rattle.verbs_types.specs.declared.request.Item.TheVariants.{Request as TheRequest, Receive as TheReceive}
use Rattle.work_entries.specs.Receive.{IsReceive, AreClearFrom, end_of_list, room_of, used_units}
use Rattle.provider_post.specs.Item.{IsReceiveEntry}
use Rattle.provider_post.specs.Side.{IsNext}

fixed_some : (o : Opcode) → 0 < fixed_units o
fixed_some opcodes.Nop = omega arith
fixed_some opcodes.RdmaWrite = omega arith
fixed_some opcodes.RdmaWriteImm = omega arith
fixed_some opcodes.Send = omega arith
fixed_some opcodes.SendImm = omega arith
fixed_some opcodes.RdmaRead = omega arith
fixed_some opcodes.AtomicCs = omega arith
fixed_some opcodes.AtomicFa = omega arith

fixed_few : (o : Opcode) → fixed_units o ≤ 3
fixed_few opcodes.Nop = omega arith
fixed_few opcodes.RdmaWrite = omega arith
fixed_few opcodes.RdmaWriteImm = omega arith
fixed_few opcodes.Send = omega arith
fixed_few opcodes.SendImm = omega arith
fixed_few opcodes.RdmaRead = omega arith
fixed_few opcodes.AtomicCs = omega arith
fixed_few opcodes.AtomicFa = omega arith

data_few : (o : Opcode) → most_data o ≤ 8
data_few opcodes.Nop = omega arith
data_few opcodes.RdmaWrite = omega arith
data_few opcodes.RdmaWriteImm = omega arith
data_few opcodes.Send = omega arith
data_few opcodes.SendImm = omega arith
data_few opcodes.RdmaRead = omega arith
data_few opcodes.AtomicCs = omega arith
data_few opcodes.AtomicFa = omega arith

body_few : (o : Opcode) (b : SentBody) → MayCarry o b → body_units b ≤ 8
body_few o (Sges sges) carried = omega (arith, carried.0, data_few o)
body_few o (Inline bytes) carried = omega (arith, carried.1)

-- byte 7 of a unit is the low byte of its first word
low_byte : (words : List ℕ) → slice_index (unit words 0) 7 ≡ slice_index words 0 % 256
unfolding unit word_bytes
low_byte words = omega arith

units_in : (s : Sent) (w : SendWords) → IsSend s w → slice_index w.words 0 % 256 ≡ units_of s
units_in s w is =
    let low : slice_index (unit w.words 0) 7 < 256 = rw (low_byte w.words) (omega arith) in
    sym (low_byte w.words) ∙ (sym (byte_value (unit w.words 0) 7 low) ∙ is.control.1.1.1.1.0)

unit_blocks_is : (units : ℕ) → 0 < units → units ≤ 16 → unit_blocks units ≡ (units + 3) / 4
unit_blocks_is units some few =
    cond_both (leb units 4) 1 (cond (leb units 8) 2 (cond (leb units 12) 3 4)) (λ k. k ≡ (units + 3) / 4) (λ t. omega (arith, some, leb-true units 4 t))
    (λ a. cond_both (leb units 8) 2 (cond (leb units 12) 3 4) (λ k. k ≡ (units + 3) / 4) (λ t. omega (arith, leb-false units 4 a, leb-true units 8 t))
    (λ b. cond_both (leb units 12) 3 4 (λ k. k ≡ (units + 3) / 4) (λ t. omega (arith, leb-false units 8 b, leb-true units 12 t)) (λ t. omega (arith, few, leb-false units 12 t))))

pub spans_of : (place : WqPlace) (s : Sent) (w : SendWords) → is_send place ≡ true → IsSend s w → w.blocks ≡ span place (slice_index w.words 0)
spans_of place s w send is =
    let some = fixed_some (opcode_of s.op) in
    let few = fixed_few (opcode_of s.op) in
    let body = body_few (opcode_of s.op) s.body is.carried in
    let units : slice_index w.words 0 % 2 ^ 6 ≡ units_of s = omega (arith, units_in s w is, few, body) in
    rw send (is.blocks ∙ (sym (unit_blocks_is (units_of s) (omega (arith, some)) (omega (arith, few, body))) ∙ ap unit_blocks (sym units)))

-- the words of an entry's blocks begin with its first word
first_of : (place : WqPlace) (s : Sent) (w : SendWords) → place.stride ≡ 8 → IsSend s w → slice_index (entry_words place w) 0 ≡ slice_index w.words 0
first_of place s w stride is = get_or-take (w.blocks * place.stride) w.words 0 0 (rw stride (omega (arith, is.blocks, fixed_some (opcode_of s.op))))

pub spans_entry : (place : WqPlace) (s : Sent) (w : SendWords) → is_send place ≡ true → place.stride ≡ 8 → IsSend s w → w.blocks ≡ span place (slice_index (entry_words place w) 0)
spans_entry place s w send stride is = spans_of place s w send is ∙ ap (λ f. span place f) (sym (first_of place s w stride is))

one_times : (n : ℕ) → 1 * n ≡ n
one_times n = omega arith

-- a receive takes one block
pub spans_block : (place : WqPlace) (entry : SendWords) → is_send place ≡ false → entry.blocks ≡ 1 → entry.blocks ≡ span place (slice_index entry.words 0)
spans_block place entry receive one = rw receive one

-- an entry of a request is written as that of the request that comes next
pub next_send : (place : WqPlace) (number index low : ℕ) (next : Option Item) (r : Request) (w : SendWords) → next ≡ Some (TheRequest r) → low ≡ index % 2 ^ 16 → IsSend (sent_of r low number) w
    → IsNext place (OfSend number) index next (Some (Posting (entry_words place w) r.id))
next_send place number index low next r w found is spells = record {
  item = TheRequest r;
  next_is = found;
  written = record { entry = w; spells = subst (λ k. IsSend (sent_of r k number) w) is spells; words_are = refl; id_is = refl };
}

-- a block of a receive is written as that of the receive that comes next
pub next_receive : (place : WqPlace) (number index stride : ℕ) (next : Option Item) (r : Receive) (w : SendWords) → next ≡ Some (TheReceive r) → place.stride ≡ stride → IsReceiveEntry r.sges stride w
    → IsNext place (OfReceive number) index next (Some (Posting (entry_words place w) r.id))
next_receive place number index stride next r w found is entry =
    let words_are : take stride w.words ≡ entry_words place w = sym (ap (λ (b : ℕ). take (b * place.stride) w.words) entry.one ∙ ap (λ (n : ℕ). take n w.words) (one_times place.stride ∙ is)) in
    record {
      item = TheReceive r;
      next_is = found;
      written = record {
        whole = subst (λ (ws : List ℕ). length ws ≡ place.stride) words_are (entry.whole ∙ sym is);
        spells = subst (λ (ws : List ℕ). IsReceive r.sges (room_of place.stride) ws) words_are (subst (λ (n : ℕ). IsReceive r.sges (room_of n) (take stride w.words)) (sym is) entry.spells);
        clear = subst (λ (ws : List ℕ). AreClearFrom (used_units (length r.sges) (room_of place.stride)) ws) words_are (subst (λ (n : ℕ). AreClearFrom (used_units (length r.sges) (room_of n)) (take stride w.words)) (sym is) entry.clear);
        id_is = refl;
      };
    }

-- a receive's words in whole blocks
word_kept : (n : ℕ) (words : List ℕ) (i : ℕ) → i < n → slice_index (take n words) i ≡ slice_index words i
word_kept n words i below = get_or-take n words i 0 below

unit_within : (n : ℕ) (words : List ℕ) (k : ℕ) → 2 * k + 2 ≤ n → unit (take n words) k ≡ unit words k
unfolding unit
unit_within n words k within =
    ap (λ w. word_bytes w ++ word_bytes (slice_index (take n words) (2 * k + 1))) (word_kept n words (2 * k) (omega (arith, within)))
    ∙ ap (λ w. word_bytes (slice_index words (2 * k)) ++ word_bytes w) (word_kept n words (2 * k + 1) (omega (arith, within)))

room_within : (stride k : ℕ) → k < room_of stride → 2 * k + 2 ≤ stride
room_within stride k below = omega (arith, below)

spells_within : (sges : List Sge) (stride : ℕ) (words : List ℕ) → IsReceive sges (room_of stride) words → IsReceive sges (room_of stride) (take stride words)
spells_within sges stride words is = record {
  fits = is.fits;
  real = is.real;
  segments = segments_same sges words (take stride words) 0 (λ j low high. unit_within stride words j (room_within stride j (omega (arith, high, is.fits)))) is.segments;
  ended = λ left. subst (λ (u : List ℕ). Spells DataUnit (segment_values end_of_list) u) (sym (unit_within stride words (length sges) (room_within stride (length sges) left))) (is.ended left);
}

clear_within : (k n : ℕ) (words : List ℕ) → AreClearFrom k words → AreClearFrom k (take n words)
clear_within k n words clear i from = elim (cases_lt i n) [
  | inl below ↦ word_kept n words i below ∙ clear i from
  | inr past ↦ get_or_past (take n words) i 0 (omega (arith, length-take n words, past))
]

pub receive_entry : (sges : List Sge) (stride : ℕ) (words rest : List ℕ) → length words ≡ 16 → stride ≤ 16 → IsReceive sges (room_of stride) words → AreClearFrom (used_units (length sges) (room_of stride)) words
    → IsReceiveEntry sges stride (record { blocks = 1; words = words ++ rest })
receive_entry sges stride words rest full few spells clear =
    let front : take stride words ≡ take stride (words ++ rest) = sym (take-append-le stride words rest (omega (arith, full, few))) in
    record {
      one = refl;
      whole = ap length (sym front) ∙ length-take-le stride words (omega (arith, full, few));
      spells = subst (λ (ws : List ℕ). IsReceive sges (room_of stride) ws) front (spells_within sges stride words spells);
      clear = subst (λ (ws : List ℕ). AreClearFrom (used_units (length sges) (room_of stride)) ws) front (clear_within (used_units (length sges) (room_of stride)) stride words clear);
    }
