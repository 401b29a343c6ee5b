-- A block's bytes: a part, a tail and two signatures.
use Rattle.std.proofs.Common.{◌≡◌, ℕ, ◌+◌, ◌-◌, ◌≤◌, ◌<◌, List, [], ◌∷◌, ◌++◌, length, take, drop, replicate, slice_index, slice_set, bit_xor, true, refl, sym, ap, ◌∙◌, inl, ⊎_elim, slice_index_or, subst, arith, append_assoc, length-append}
use Rattle.std.proofs.lemmas.List.{drop-replicate, drop-set-add, take-set-le, replicate-append-replicate, length-replicate, take_at, take_all, length-drop, drop_at, append-nil, get_or-set_same, get_or-set_other}
use Rattle.std.proofs.Math.ListN.{length-set, drop_of_length-le}
use Rattle.std.proofs.Math.Seq.{take-set-lt}
use Rattle.std.proofs.lemmas.Bool.{cases_eq}
use Rattle.prm_fields.specs.Bits.{field_value, KeepsOtherBytes}
use Rattle.prm_fields.proofs.Chains.{Put, put_of, Chain, all_hold, untouched, is_apart, field_value-zeros}
use Rattle.prm_fields.proofs.Parts.{range_read, length-range, kept_range, kept_field, bits_from_bytes, field_value-take, field_value-drop}
use Rattle.cmd_format.specs.Signature.{exclusive_or}
use Rattle.cmd_format.specs.Block.{HasTail, IsBlock, HasBlocks, block_at, blocks_of, control_of, padded, tail_of}
use Rattle.cmd_format.proofs.Xors.{exclusive_or_signed}

-- a write to the tail is a write to the control bytes, but for the last byte
pub control_of-set : (bytes : List ℕ) (control whole : ℕ) → control_of (slice_set (slice_set bytes 574 control) 575 whole) ≡ slice_set (control_of bytes) 62 control
control_of-set bytes control whole =
    ap (take 63) (drop-set-add 512 (slice_set bytes 574 control) 63 whole)
    ∙ take-set-le 63 (drop 512 (slice_set bytes 574 control)) 63 whole (omega arith)
    ∙ ap (take 63) (drop-set-add 512 bytes 62 control)
    ∙ take-set-lt 63 (drop 512 bytes) 62 control (omega arith)

pub control_signed : (bytes : List ℕ) (whole : ℕ) → length bytes ≡ 576 → exclusive_or (control_of (slice_set (slice_set bytes 574 (bit_xor (slice_index bytes 574) (bit_xor (exclusive_or (control_of bytes)) 255))) 575 whole)) ≡ 255
control_signed bytes whole long =
    let inside : 62 < length (control_of bytes) = omega (arith, length-range bytes 512 63 (omega arith)) in
    let byte : slice_index (control_of bytes) 62 ≡ slice_index bytes 574 = range_read bytes 512 63 62 (omega arith) in
    ap exclusive_or (control_of-set bytes _ whole)
    ∙ ap (λ b. exclusive_or (slice_set (control_of bytes) 62 (bit_xor b (bit_xor (exclusive_or (control_of bytes)) 255)))) (sym byte)
    ∙ exclusive_or_signed (control_of bytes) 62 255 inside

pub length-padded : (part : List ℕ) → length part ≤ 512 → length (padded part) ≡ 512
length-padded part short = length-append part (replicate (512 - length part) 0) ∙ omega (arith, length-replicate {A = ℕ} (512 - length part) 0)

-- a part and a tail copied over zeros
pub joined : (part tail : List ℕ) → length part ≤ 512 → length tail ≡ 64
    → (zeros first last : List ℕ) → zeros ≡ replicate 576 0
    → first ≡ take 0 zeros ++ part ++ drop (0 + length part) zeros
    → last ≡ take 512 first ++ tail ++ drop (512 + length tail) first
    → last ≡ padded part ++ tail
joined part tail short long zeros first last is_zeros is_first is_last =
    let n = length part in
    let rest : drop (0 + n) (replicate 576 0) ≡ replicate (512 - n) 0 ++ replicate 64 0 =
    drop-replicate (0 + n) 576 0 ∙ ap (λ m. replicate m 0) (omega arith) ∙ sym (replicate-append-replicate (512 - n) 64 0) in
    let split : first ≡ padded part ++ replicate 64 0 =
    is_first ∙ ap (λ z. part ++ drop (0 + n) z) is_zeros ∙ ap (λ r. part ++ r) rest ∙ sym (append_assoc part (replicate (512 - n) 0) (replicate 64 0)) in
    let front : take 512 first ≡ padded part = ap (take 512) split ∙ take_at (padded part) (replicate 64 0) 512 (length-padded part short) in
    let whole : length first ≡ 576 = ap length split ∙ length-append (padded part) (replicate 64 0) ∙ omega (arith, length-padded part short) in
    let none : drop (512 + length tail) first ≡ [] = drop_of_length-le first (omega (arith, whole, long)) in
    is_last ∙ rw (front, none) (append-nil (padded part ++ tail))

-- the puts that write a tail
abbrev pub tail_puts : ℕ → ℕ → ℕ → List Put
tail_puts next number token = put_of 384 64 next ∷ put_of 448 32 number ∷ put_of 488 8 token ∷ []

pub tail_from_chain : (next number token : ℕ) (zeros tail : List ℕ) → Chain (tail_puts next number token) zeros tail → ((k : ℕ) → slice_index zeros k ≡ 0) → HasTail next number token tail
tail_from_chain next number token zeros tail chain clear =
    let held = all_hold (tail_puts next number token) zeros tail chain refl in
    let left : (bit width : ℕ) → is_apart bit width (tail_puts next number token) ≡ true → field_value tail bit width ≡ 0 =
    λ bit width apart. untouched (tail_puts next number token) zeros tail chain bit width apart ∙ field_value-zeros zeros clear bit width in
    record {
      next_at = held.0;
      number_at = held.1.0;
      token_at = held.1.1.0;
      reserved = rw (left 0 384 refl, left 480 8 refl) refl;
    }

-- what the signatures leave of a part and a tail
module _ (part tail new : List ℕ) (part_long : length part ≡ 512) (tail_long : length tail ≡ 64)
    (new_long : length new ≡ 576) (kept : KeepsOtherBytes (part ++ tail) new 574 2) where
  whole : length (part ++ tail) ≡ 576
  whole = length-append part tail ∙ omega (arith, part_long, tail_long)

  pub part_kept : take 512 new ≡ part
  part_kept =
      kept_range (part ++ tail) new 0 512 574 2 (new_long ∙ sym whole) (omega (arith, whole)) kept (inl (omega arith))
      ∙ take_at part tail 512 part_long

  tail_field : (bit width : ℕ) → bit + width ≤ 496 → field_value (tail_of new) bit width ≡ field_value tail bit width
  tail_field bit width inside =
      let behind : (bytes : List ℕ) → field_value (tail_of bytes) bit width ≡ field_value bytes (4096 + bit) width =
      λ bytes. field_value-take (drop 512 bytes) 64 bit width (omega arith) ∙ field_value-drop bytes 512 bit width in
      let here : tail_of (part ++ tail) ≡ tail =
      ap (take 64) (drop_at part tail 512 part_long) ∙ ap (λ t. take 64 t) (sym (append-nil tail)) ∙ take_at tail [] 64 tail_long in
      behind new
      ∙ kept_field (part ++ tail) new (4096 + bit) width 4592 16 (bits_from_bytes (part ++ tail) new 574 2 kept) (inl (omega arith))
      ∙ sym (behind (part ++ tail))
      ∙ ap (λ t. field_value t bit width) here

  pub tail_kept : (next number token : ℕ) → HasTail next number token tail → HasTail next number token (tail_of new)
  tail_kept next number token has = record {
    next_at = tail_field 384 64 (omega arith) ∙ has.next_at;
    number_at = tail_field 448 32 (omega arith) ∙ has.number_at;
    token_at = tail_field 488 8 (omega arith) ∙ has.token_at;
    reserved = rw (tail_field 0 384 (omega arith), tail_field 480 8 (omega arith)) has.reserved;
  }

-- one block for at most 512 bytes
pub one_written : (rest addresses : List ℕ) (token : ℕ) (blocks : List (List ℕ)) (bytes : List ℕ)
    → length rest ≤ 512 → 0 < length blocks
    → IsBlock (record { part = padded rest; next = 0 }) token 0 bytes
    → HasBlocks rest token addresses (slice_set blocks 0 bytes)
one_written rest addresses token blocks bytes short room is k low =
    let first : k ≡ 0 = omega arith in
    let count : blocks_of (length rest) ≡ 1 = omega arith in
    let whole : take 512 rest ≡ rest = take_all 512 rest short in
    let base : IsBlock (block_at rest addresses 0) token 0 (slice_index_or (slice_set blocks 0 bytes) 0 []) =
    rw (count, whole, get_or-set_same blocks 0 bytes [] room) is in
    subst (λ n. IsBlock (block_at rest addresses n) token n (slice_index_or (slice_set blocks 0 bytes) n [])) (sym first) base

-- two blocks for more
pub two_written : (rest addresses : List ℕ) (token : ℕ) (blocks : List (List ℕ)) (first second : List ℕ)
    → 512 < length rest → length rest ≤ 1024 → 1 < length blocks
    → IsBlock (record { part = padded (take 512 rest); next = slice_index addresses 1 }) token 0 first
    → IsBlock (record { part = padded (drop 512 rest); next = 0 }) token 1 second
    → HasBlocks rest token addresses (slice_set (slice_set blocks 0 first) 1 second)
two_written rest addresses token blocks first second long short room is_first is_second k low =
    let count : blocks_of (length rest) ≡ 2 = omega arith in
    let behind : length (drop 512 rest) ≤ 512 = rw length-drop (omega arith) in
    let whole : take 512 (drop 512 rest) ≡ drop 512 rest = take_all 512 (drop 512 rest) behind in
    let new = slice_set (slice_set blocks 0 first) 1 second in
    let at_zero : slice_index_or new 0 [] ≡ first = get_or-set_other (slice_set blocks 0 first) 1 0 second [] (λ same. absurd (omega arith)) ∙ get_or-set_same blocks 0 first [] (omega arith) in
    let at_one : slice_index_or new 1 [] ≡ second = get_or-set_same (slice_set blocks 0 first) 1 second [] (rw length-set room) in
    let zeroth : IsBlock (block_at rest addresses 0) token 0 (slice_index_or new 0 []) = rw (count, at_zero) is_first in
    let oneth : IsBlock (block_at rest addresses 1) token 1 (slice_index_or new 1 []) = rw (count, whole, at_one) is_second in
    let P = λ (n : ℕ). IsBlock (block_at rest addresses n) token n (slice_index_or new n []) in
    ⊎_elim (λ none. subst P (sym none) zeroth) (λ some. subst P (omega arith) oneth) (cases_eq k 0)
