-- Laws of the numbers that bits spell.
use Rattle.std.proofs.Common.{◌≡◌, ℕ, zero, suc, ◌+◌, ◌-◌, ◌*◌, ◌/◌, ◌%◌, ◌^◌, ◌<◌, ◌≤◌, List, slice_index, refl, ap, arith, add-zero, add-suc, bit_or}
use Rattle.std.proofs.lemmas.Nat.{shr-shr, mod-pow-add, mod_below, pow_pos, shl_whole, or_shifted}
use Rattle.std.proofs.Math.Nat.{pow-suc}
use Rattle.std.proofs.Math.Numerals.{add-one}
use Rattle.prm_fields.specs.Bits.{bit_of, field_value}

pub bit_of-lt : (bytes : List ℕ) (k : ℕ) → bit_of bytes k < 2
bit_of-lt bytes k = mod_below _ 2 (omega arith)

-- the first bits of a field are the high part of its value
pub field_value-add : (bytes : List ℕ) (first m n : ℕ) → field_value bytes first (m + n) ≡ field_value bytes first m * 2 ^ n + field_value bytes (first + m) n
unfolding field_value
field_value-add bytes first m zero =
    let none = ap (field_value bytes first) (add-zero m) in
    omega (arith, none)
field_value-add bytes first m (suc n) =
    let induction = field_value-add bytes first m n in
    let same_bit : bit_of bytes (first + (m + n)) ≡ bit_of bytes (first + m + n) = ap (bit_of bytes) (omega arith) in
    let doubled = ap (λ p. field_value bytes first m * p) (pow-suc 2 n) in
    rw add-suc (omega (arith, induction, same_bit, doubled))

pub field_value-lt : (bytes : List ℕ) (first width : ℕ) → field_value bytes first width < 2 ^ width
unfolding field_value
field_value-lt bytes first zero = omega arith
field_value-lt bytes first (suc width) =
    let induction = field_value-lt bytes first width in
    omega (arith, induction, bit_of-lt bytes (first + width), pow-suc 2 width)

-- two byte strings with the same bits in a field have the same value there
pub field_value-same : (a b : List ℕ) (first width : ℕ) → ((k : ℕ) → first ≤ k → k < first + width → bit_of a k ≡ bit_of b k) → field_value a first width ≡ field_value b first width
unfolding field_value
field_value-same a b first zero same = refl
field_value-same a b first (suc width) same =
    let induction = field_value-same a b first width (λ k low high. same k low (omega arith)) in
    let last = same (first + width) (omega arith) (omega arith) in
    omega (arith, induction, last)

-- one more bit of a byte
next_bit : (byte below count : ℕ) → 2 * (byte / 2 ^ suc below % 2 ^ count) + byte / 2 ^ below % 2 ≡ byte / 2 ^ below % 2 ^ suc count
next_bit byte below count =
    let split = mod-pow-add (byte / 2 ^ below) count 1 in
    let shifted = ap (λ n. n % 2 ^ count) (shr-shr byte below 1) in
    let next = ap (λ n. byte / 2 ^ n % 2 ^ count) (add-one below) in
    let width = ap (λ n. byte / 2 ^ below % 2 ^ n) (add-one count) in
    omega (arith, split, shifted, next, width)

-- a field within a byte
pub field_value_in_byte : (bytes : List ℕ) (i from count : ℕ) → from + count ≤ 8 → field_value bytes (8 * i + from) count ≡ slice_index bytes i / 2 ^ (8 - from - count) % 2 ^ count
unfolding field_value
field_value_in_byte bytes i from zero fits = omega arith
field_value_in_byte bytes i from (suc count) fits =
    let induction = field_value_in_byte bytes i from count (omega arith) in
    let place : (8 * i + from + count) / 8 ≡ i = omega arith in
    let below : 7 - (8 * i + from + count) % 8 ≡ 8 - from - suc count = omega arith in
    let above : 8 - from - count ≡ suc (8 - from - suc count) = omega arith in
    let bit : bit_of bytes (8 * i + from + count) ≡ slice_index bytes i / 2 ^ (8 - from - suc count) % 2 = rw (place, below) refl in
    let rest = ap (λ n. slice_index bytes i / 2 ^ n % 2 ^ count) above in
    omega (arith, induction, bit, rest, next_bit (slice_index bytes i) (8 - from - suc count) count)

-- the next bits, which stand within byte i, put behind the value of the bits before them
pub field_value_joined : (bytes : List ℕ) (first m i from count value : ℕ) → value ≡ field_value bytes first m → first + m ≡ 8 * i + from → from + count ≤ 8 → m + count ≤ 64 → bit_or (value * 2 ^ count % 2 ^ 64) (slice_index bytes i / 2 ^ (8 - from - count) % 2 ^ count) ≡ field_value bytes first (m + count)
field_value_joined bytes first m i from count value is place within wide =
    let part = slice_index bytes i / 2 ^ (8 - from - count) % 2 ^ count in
    let here : field_value bytes (first + m) count ≡ part = rw place (field_value_in_byte bytes i from count within) in
    let small : value < 2 ^ m = rw is (field_value-lt bytes first m) in
    let low : part < 2 ^ count = mod_below _ (2 ^ count) (pow_pos count) in
    rw (shl_whole value m count 64 small wide, or_shifted value count part low, field_value-add bytes first m count, here, is) refl

pub field_value_none : (bytes : List ℕ) (first width : ℕ) → width ≡ 0 → 0 ≡ field_value bytes first width
unfolding field_value
field_value_none bytes first width none = rw none refl

-- a field of more than 32 bits in two halves
pub field_value_halves : (bytes : List ℕ) (first width high low : ℕ) → 32 ≤ width → width ≤ 64 → high ≡ field_value bytes first (width - 32) → low ≡ field_value bytes (first + (width - 32)) 32 → bit_or (high * 2 ^ 32 % 2 ^ 64) low ≡ field_value bytes first width
field_value_halves bytes first width high low wide narrow is_high is_low =
    let whole : width - 32 + 32 ≡ width = omega arith in
    let small : high < 2 ^ (width - 32) = rw is_high (field_value-lt bytes first (width - 32)) in
    let low_small : low < 2 ^ 32 = rw is_low (field_value-lt bytes (first + (width - 32)) 32) in
    let split = field_value-add bytes first (width - 32) 32 in
    rw (shl_whole high (width - 32) 32 64 small (omega arith), or_shifted high 32 low low_small, is_high, is_low, ← split) (ap (field_value bytes first) whole)
