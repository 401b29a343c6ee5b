-- Fields of a part of a byte string.
use Rattle.std.proofs.Common.{◌≡◌, ℕ, zero, suc, ◌+◌, ◌-◌, ◌*◌, ◌/◌, ◌%◌, ◌^◌, ◌<◌, ◌≤◌, List, length, take, drop, slice_index, slice_range, sym, refl, ap, ◌∙◌, ⊎_elim, arith, ◌≢◌, add-zero, slice_set, inl, inr, ◌⊎◌}
use Rattle.std.proofs.lemmas.Bool.{cases_lt, cases_eq}
use Rattle.std.proofs.lemmas.Grind.{same_number_lists}
use Rattle.std.proofs.Math.ListN.{length-set, length-take, length-drop}
use Rattle.std.proofs.lemmas.List.{get_or-drop, get_or-take, get_or-set_same, get_or-set_other}
use Rattle.prm_fields.specs.Bits.{bit_of, field_value, KeepsOtherBits, KeepsOtherBytes}
use Rattle.prm_fields.proofs.Values.{field_value-same, field_value_in_byte}
use Rattle.prm_fields.proofs.Spelling.{bits_from_value, same_from_bits}

-- the same bits at two places spell the same number
pub field_value-moved : (a b : List ℕ) (at_a at_b width : ℕ) → ((k : ℕ) → k < width → bit_of a (at_a + k) ≡ bit_of b (at_b + k)) → field_value a at_a width ≡ field_value b at_b width
unfolding field_value
field_value-moved a b at_a at_b zero same = refl
field_value-moved a b at_a at_b (suc width) same =
    let induction = field_value-moved a b at_a at_b width (λ k low. same k (omega arith)) in
    let last = same width (omega arith) in
    omega (arith, induction, last)

bit_of-drop : (bytes : List ℕ) (n k : ℕ) → bit_of (drop n bytes) k ≡ bit_of bytes (8 * n + k)
bit_of-drop bytes n k =
    let place : (8 * n + k) / 8 ≡ n + k / 8 = omega arith in
    let below : (8 * n + k) % 8 ≡ k % 8 = omega arith in
    rw (place, below, get_or-drop) refl

bit_of-take : (bytes : List ℕ) (n k : ℕ) → k < 8 * n → bit_of (take n bytes) k ≡ bit_of bytes k
bit_of-take bytes n k inside =
    let place : k / 8 < n = omega arith in
    ap (λ byte. byte / 2 ^ (7 - k % 8) % 2) (get_or-take n bytes (k / 8) 0 place)

-- a field behind the first n bytes
pub field_value-drop : (bytes : List ℕ) (n first width : ℕ) → field_value (drop n bytes) first width ≡ field_value bytes (8 * n + first) width
field_value-drop bytes n first width =
    field_value-moved (drop n bytes) bytes first (8 * n + first) width
    (λ k low. bit_of-drop bytes n (first + k) ∙ ap (bit_of bytes) (omega arith))

-- a field within the first n bytes
pub field_value-take : (bytes : List ℕ) (n first width : ℕ) → first + width ≤ 8 * n → field_value (take n bytes) first width ≡ field_value bytes first width
field_value-take bytes n first width inside =
    field_value-moved (take n bytes) bytes first first width (λ k low. bit_of-take bytes n (first + k) (omega arith))

-- 16 bytes are known from their two words
pub same_from_two_words : (a b : List ℕ) → length a ≡ 16 → length b ≡ 16 → ((k : ℕ) → slice_index a k < 256) → ((k : ℕ) → slice_index b k < 256) → field_value a 0 64 ≡ field_value b 0 64 → field_value a 64 64 ≡ field_value b 64 64 → a ≡ b
same_from_two_words a b long_a long_b small_a small_b high low =
    same_from_bits a b (long_a ∙ sym long_b) small_a small_b
    (λ k inside.
    ⊎_elim
    (λ first. bits_from_value a b 0 64 high k (omega arith) first)
    (λ second. bits_from_value a b 64 64 low k second (omega (arith, long_a)))
    (cases_lt k 64))

-- a put leaves the fields apart from it
pub kept_field : (old new : List ℕ) (bit width first count : ℕ) → KeepsOtherBits old new first count → (bit + width ≤ first) ⊎ (first + count ≤ bit) → field_value new bit width ≡ field_value old bit width
kept_field old new bit width first count kept apart =
    ⊎_elim
    (λ before. field_value-same new old bit width (λ k low high. kept.before k (omega arith)))
    (λ after. field_value-same new old bit width (λ k low high. kept.after k (omega arith)))
    apart

-- a byte is the value of its eight bits
pub byte_value : (bytes : List ℕ) (i : ℕ) → slice_index bytes i < 256 → field_value bytes (8 * i) 8 ≡ slice_index bytes i
byte_value bytes i small =
    ap (λ first. field_value bytes first 8) (sym (add-zero (8 * i))) ∙ field_value_in_byte bytes i 0 8 (omega arith) ∙ omega arith

apart_bytes : (k i : ℕ) → k ≢ i → (8 * k + 8 ≤ 8 * i) ⊎ (8 * i + 8 ≤ 8 * k)
apart_bytes k i apart = ⊎_elim (λ below. inl (omega arith)) (λ above. inr (omega arith)) (cases_lt k i)

-- a put into a whole byte is a write of that byte
pub put_byte : (old new : List ℕ) (i value : ℕ) → length new ≡ length old → i < length old → ((k : ℕ) → slice_index old k < 256) → ((k : ℕ) → slice_index new k < 256) → field_value new (8 * i) 8 ≡ value → KeepsOtherBits old new (8 * i) 8 → new ≡ slice_set old i value
put_byte old new i value long inside small_old small_new stored kept =
    let here : slice_index new i ≡ slice_index (slice_set old i value) i =
    sym (byte_value new i (small_new i)) ∙ stored ∙ sym (get_or-set_same old i value 0 inside) in
    let other : (k : ℕ) → k ≢ i → slice_index new k ≡ slice_index (slice_set old i value) k =
    λ k apart.
    sym (byte_value new k (small_new k))
    ∙ kept_field old new (8 * k) 8 (8 * i) 8 kept (apart_bytes k i apart)
    ∙ byte_value old k (small_old k)
    ∙ sym (get_or-set_other old i k value 0 apart) in
    same_number_lists new (slice_set old i value) (long ∙ sym (length-set old i value))
    (λ k _. ⊎_elim (λ same. rw same here) (other k) (cases_eq k i))

-- what leaves the other bytes leaves the other bits
pub bits_from_bytes : (old new : List ℕ) (first count : ℕ) → KeepsOtherBytes old new first count → KeepsOtherBits old new (8 * first) (8 * count)
bits_from_bytes old new first count kept = record {
  before = λ k low. ap (λ byte. byte / 2 ^ (7 - k % 8) % 2) (kept.before (k / 8) (omega arith));
  after = λ k high. ap (λ byte. byte / 2 ^ (7 - k % 8) % 2) (kept.after (k / 8) (omega arith));
}

pub length-range : (bytes : List ℕ) (from count : ℕ) → from + count ≤ length bytes → length (slice_range bytes from (from + count)) ≡ count
length-range bytes from count inside = rw (length-take, length-drop) (omega arith)

pub range_read : (bytes : List ℕ) (from count k : ℕ) → k < count → slice_index (slice_range bytes from (from + count)) k ≡ slice_index bytes (from + k)
range_read bytes from count k inside =
    let long : from + count - from ≡ count = omega arith in
    rw (long, get_or-take count (drop from bytes) k 0 inside, get_or-drop) refl

-- a range apart from the bytes that changed
pub kept_range : (old new : List ℕ) (from count first width : ℕ) → length new ≡ length old → from + count ≤ length old → KeepsOtherBytes old new first width → (from + count ≤ first) ⊎ (first + width ≤ from) → slice_range new from (from + count) ≡ slice_range old from (from + count)
kept_range old new from count first width long inside kept apart =
    same_number_lists (slice_range new from (from + count)) (slice_range old from (from + count))
    (length-range new from count (omega arith) ∙ sym (length-range old from count inside))
    (λ k low.
    let below : k < count = omega (arith, length-range new from count (omega arith)) in
    range_read new from count k below
    ∙ ⊎_elim (λ before. kept.before (from + k) (omega arith)) (λ after. kept.after (from + k) (omega arith)) apart
    ∙ sym (range_read old from count k below))

-- two changes side by side
pub kept_joined : (old mid new : List ℕ) (first m next n : ℕ) → next ≡ first + m → KeepsOtherBits old mid first m → KeepsOtherBits mid new next n → KeepsOtherBits old new first (m + n)
kept_joined old mid new first m next n place earlier later = record {
  before = λ k low. later.before k (omega arith) ∙ earlier.before k low;
  after = λ k high. later.after k (omega arith) ∙ earlier.after k (omega arith);
}
