-- Texts of hexadecimal digits.
use Rattle.std.proofs.Common.{◌≡◌, ℕ, zero, suc, ◌+◌, ◌*◌, ◌/◌, ◌%◌, ◌<◌, List, [], ◌∷◌, ◌++◌, length, take, slice_index, refl, ap, ◌∙◌, append_assoc, arith}
use Rattle.std.proofs.lemmas.List.{take_more}
use Rattle.mlx5_dump.specs.Hex.{AreBytes, hex_digit, hex_text}

pub length-hex_text : (bytes : List ℕ) → length (hex_text bytes) ≡ 2 * length bytes
length-hex_text [] = refl
length-hex_text (b ∷ bytes) = omega (arith, length-hex_text bytes)

-- the two digits of byte k
pub digits_at : (bytes : List ℕ) (k : ℕ) → k < length bytes
    → (slice_index (hex_text bytes) (2 * k) ≡ hex_digit (slice_index bytes k / 16)) × (slice_index (hex_text bytes) (2 * k + 1) ≡ hex_digit (slice_index bytes k % 16))
digits_at [] k below = absurd (omega (arith, below))
digits_at (b ∷ bytes) zero below = (refl, refl)
digits_at (b ∷ bytes) (suc k) below =
    let first : 2 * suc k ≡ suc (suc (2 * k)) = omega arith in
    let second : 2 * suc k + 1 ≡ suc (suc (2 * k + 1)) = omega arith in
    let rest = digits_at bytes k (omega (arith, below)) in
    (ap (slice_index (hex_text (b ∷ bytes))) first ∙ rest.0, ap (slice_index (hex_text (b ∷ bytes))) second ∙ rest.1)

-- two more digits
pub take_pair : (digits : List ℕ) (place : ℕ) → place + 1 < length digits → take (place + 2) digits ≡ take place digits ++ slice_index digits place ∷ slice_index digits (place + 1) ∷ []
take_pair digits place inside =
    let regrouped : place + 2 ≡ place + 1 + 1 = omega arith in
    ap (λ n. take n digits) regrouped
    ∙ take_more digits (place + 1) 0 inside
    ∙ ap (λ l. l ++ slice_index digits (place + 1) ∷ []) (take_more digits place 0 (omega (arith, inside)))
    ∙ append_assoc (take place digits) _ _

-- one more byte
after_first : (b : ℕ) (bytes : List ℕ) → b < 256 → AreBytes bytes → AreBytes (b ∷ bytes)
after_first b bytes first rest zero = first
after_first b bytes first rest (suc k) = rest k

pub are_bytes_more : (bytes : List ℕ) (byte : ℕ) → AreBytes bytes → byte < 256 → AreBytes (bytes ++ byte ∷ [])
are_bytes_more [] byte are small = after_first byte [] small are
are_bytes_more (b ∷ bytes) byte are small = after_first b (bytes ++ byte ∷ []) (are 0) (are_bytes_more bytes byte (λ k. are (suc k)) small)
