-- Two hexadecimal digits at a time.
use Rattle.std.proofs.Common.{◌≡◌, ℕ, zero, suc, ◌+◌, ◌-◌, ◌*◌, ◌/◌, ◌%◌, ◌<◌, Bool, true, ◌&&◌, T, eqb, List, [], ◌∷◌, ◌++◌, get_or, refl, inl, inr, arith, eq-zero-or-pos, eqb→eq, append_assoc}
use lib.Ieee.Fits.{and_l, and_r}
use Rattle.scenario_text.specs.Requests.{hex, hex_digit}
use Rattle.transcript_text.specs.declared.line.TheConstants.{PAIRS}

abbrev are_pairs : ℕ → Bool
are_pairs zero = true
are_pairs (suc p) = (eqb (get_or PAIRS (2 * p) 0) (hex_digit (p / 16)) && eqb (get_or PAIRS (2 * p + 1) 0) (hex_digit (p % 16))) && are_pairs p

below : (n p : ℕ) → T (are_pairs n) → p < n → (get_or PAIRS (2 * p) 0 ≡ hex_digit (p / 16)) × (get_or PAIRS (2 * p + 1) 0 ≡ hex_digit (p % 16))
below zero p t h = absurd (omega arith)
below (suc n) p t h =
    elim (eq-zero-or-pos (n - p)) [
      | inl z ↦ let e : p ≡ n = omega arith in let both = and_l _ (are_pairs n) t in rw e (eqb→eq _ _ (and_l _ _ both), eqb→eq _ _ (and_r _ _ both))
      | inr g ↦ below n p (and_r _ (are_pairs n) t) (omega arith)
    ]

-- the digits of a byte stand at twice its place
pub PAIRS_at : (p : ℕ) → p < 256 → (get_or PAIRS (2 * p) 0 ≡ hex_digit (p / 16)) × (get_or PAIRS (2 * p + 1) 0 ≡ hex_digit (p % 16))
PAIRS_at p h = below 256 p tt h

hex_suc : (k n : ℕ) → hex (suc k) n ≡ hex k (n / 16) ++ hex_digit (n % 16) ∷ []
unfolding hex
hex_suc k n = refl

-- the last two digits are those of the last byte
pub hex_two : (k k' n : ℕ) (rest : List ℕ) → k ≡ k' + 2 → hex k n ++ rest ≡ hex k' (n / 256) ++ hex_digit (n % 256 / 16) ∷ hex_digit (n % 256 % 16) ∷ rest
hex_two k k' n rest more =
    let e : k ≡ suc (suc k') = omega arith in
    let a : n / 16 / 16 ≡ n / 256 = omega arith in
    let b : n / 16 % 16 ≡ n % 256 / 16 = omega arith in
    let c : n % 16 ≡ n % 256 % 16 = omega arith in
    rw (e, hex_suc (suc k') n, hex_suc k' (n / 16), a, b, c, append_assoc, append_assoc) refl

pub hex_none : (k n : ℕ) (rest : List ℕ) → k ≡ 0 → hex k n ++ rest ≡ rest
unfolding hex
hex_none k n rest none = rw none refl
