-- What stays and what changes when a byte of a byte string is replaced, and one field after another is written.
use Rattle.std.proofs.Common.{◌≡◌, ℕ, ◌+◌, ◌-◌, ◌*◌, ◌/◌, ◌%◌, ◌^◌, ◌<◌, ◌≤◌, ◌≢◌, List, length, slice_index, slice_set, sym, refl, ap, ◌∙◌, ⊎_elim, arith, get_or-set_other, get_or-set_same}
use Rattle.std.proofs.lemmas.Nat.{shr-shr, shr_split}
use Rattle.std.proofs.lemmas.Nat.Bits.{bit_at_cat_low}
use Rattle.std.proofs.lemmas.Bool.{cases_eq}
use Rattle.prm_fields.specs.Bits.{bit_of, field_value, KeepsOtherBits}
use Rattle.std.proofs.Math.Nat.{div-eq_of_lt}
use Rattle.prm_fields.proofs.Values.{field_value-add, field_value-same, field_value_in_byte, field_value_none}

-- two numbers with the same high part have the same bits there
high_bit : (a b below s : ℕ) → a / 2 ^ below ≡ b / 2 ^ below → below ≤ s → a / 2 ^ s % 2 ≡ b / 2 ^ s % 2
high_bit a b below s same above =
    let width : below + (s - below) ≡ s = omega arith in
    let apart : (n : ℕ) → n / 2 ^ s ≡ n / 2 ^ below / 2 ^ (s - below) = λ n. ap (λ k. n / 2 ^ k) (sym width) ∙ sym (shr-shr n below (s - below)) in
    ap (λ n. n % 2) (apart a ∙ ap (λ n. n / 2 ^ (s - below)) same ∙ sym (apart b))

-- two numbers with the same low part have the same bits there
low_bit : (a b above s : ℕ) → a % 2 ^ above ≡ b % 2 ^ above → s < above → a / 2 ^ s % 2 ≡ b / 2 ^ s % 2
low_bit a b above s same below =
    let alone : (n : ℕ) → n / 2 ^ s % 2 ≡ n % 2 ^ above / 2 ^ s % 2 = λ n. ap (λ m. m / 2 ^ s % 2) (sym (shr_split n above)) ∙ bit_at_cat_low (n / 2 ^ above) above (n % 2 ^ above) s below in
    alone a ∙ ap (λ n. n / 2 ^ s % 2) same ∙ sym (alone b)

-- byte i is replaced by one with the same bits before `from` and from `from + count` on
module _ (bytes : List ℕ) (i byte from count : ℕ) (within : from + count ≤ 8) (inside : i < length bytes) where
  pub set_keeps :
      byte / 2 ^ (8 - from) ≡ slice_index bytes i / 2 ^ (8 - from)
      → byte % 2 ^ (8 - from - count) ≡ slice_index bytes i % 2 ^ (8 - from - count)
      → KeepsOtherBits bytes (slice_set bytes i byte) (8 * i + from) count
  set_keeps before after =
      let new = slice_set bytes i byte in
      let other : (k : ℕ) → k / 8 ≢ i → bit_of new k ≡ bit_of bytes k = λ k apart. ap (λ b. b / 2 ^ (7 - k % 8) % 2) (get_or-set_other bytes i (k / 8) byte 0 apart) in
      let here : (k : ℕ) → k / 8 ≡ i → byte / 2 ^ (7 - k % 8) % 2 ≡ slice_index bytes i / 2 ^ (7 - k % 8) % 2 → bit_of new k ≡ bit_of bytes k =
      λ k place same. rw place (ap (λ b. b / 2 ^ (7 - k % 8) % 2) (get_or-set_same bytes i byte 0 inside) ∙ same) in
      let at_bit : (k : ℕ) → (k / 8 ≡ i → byte / 2 ^ (7 - k % 8) % 2 ≡ slice_index bytes i / 2 ^ (7 - k % 8) % 2) → bit_of new k ≡ bit_of bytes k =
      λ k same. ⊎_elim (λ place. here k place (same place)) (other k) (cases_eq (k / 8) i) in
      record {
        before = λ k low. at_bit k (λ place. high_bit byte (slice_index bytes i) (8 - from) (7 - k % 8) before (omega arith));
        after = λ k high. at_bit k (λ place. low_bit byte (slice_index bytes i) (8 - from - count) (7 - k % 8) after (omega arith));
      }

  pub set_value : field_value (slice_set bytes i byte) (8 * i + from) count ≡ byte / 2 ^ (8 - from - count) % 2 ^ count
  set_value =
      let here : slice_index (slice_set bytes i byte) i ≡ byte = rw get_or-set_same in
      field_value_in_byte (slice_set bytes i byte) i from count within ∙ ap (λ b. b / 2 ^ (8 - from - count) % 2 ^ count) here

-- after m bits of a value stand in a field, the next `count` are written into byte i
module _ (old mid : List ℕ) (first m i byte from count width value : ℕ)
    (place : first + m ≡ 8 * i + from) (within : from + count ≤ 8) (inside : i < length mid) (room : m + count ≤ width)
    (before : byte / 2 ^ (8 - from) ≡ slice_index mid i / 2 ^ (8 - from))
    (after : byte % 2 ^ (8 - from - count) ≡ slice_index mid i % 2 ^ (8 - from - count)) where
  here : KeepsOtherBits mid (slice_set mid i byte) (first + m) count
  here = rw place (set_keeps mid i byte from count within inside before after)

  pub keeps_more : KeepsOtherBits old mid first m → KeepsOtherBits old (slice_set mid i byte) first (m + count)
  keeps_more earlier = record {
    before = λ k low. here.before k (omega arith) ∙ earlier.before k low;
    after = λ k high. here.after k (omega arith) ∙ earlier.after k (omega arith);
  }

  pub value_more :
      field_value mid first m ≡ value / 2 ^ (width - m)
      → byte / 2 ^ (8 - from - count) % 2 ^ count ≡ value / 2 ^ (width - (m + count)) % 2 ^ count
      → field_value (slice_set mid i byte) first (m + count) ≡ value / 2 ^ (width - (m + count))
  value_more earlier next =
      let new = slice_set mid i byte in
      let same : field_value new first m ≡ field_value mid first m = field_value-same new mid first m (λ k low high. here.before k high) in
      let rest : width - m ≡ width - (m + count) + count = omega arith in
      let shifted = ap (λ n. value / 2 ^ n) rest ∙ sym (shr-shr value (width - (m + count)) count) in
      let last : field_value new (first + m) count ≡ value / 2 ^ (width - (m + count)) % 2 ^ count = rw place (set_value mid i byte from count within inside ∙ next) in
      rw (field_value-add new first m count, same, earlier, last, shifted) (shr_split (value / 2 ^ (width - (m + count))) count)

pub keeps_none : (bytes : List ℕ) (first width : ℕ) → KeepsOtherBits bytes bytes first width
keeps_none bytes first width = record { before = λ k low. refl; after = λ k high. refl }

pub value_none : (bytes : List ℕ) (first written width value : ℕ) → written ≡ 0 → value < 2 ^ width → field_value bytes first written ≡ value / 2 ^ (width - written)
value_none bytes first written width value none small =
    let whole : width - written ≡ width = omega arith in
    sym (field_value_none bytes first written none) ∙ sym (div-eq_of_lt small) ∙ ap (λ n. value / 2 ^ n) (sym whole)
