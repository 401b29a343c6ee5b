-- What hexadecimal digits spell is below what so many of them can.
use Rattle.std.proofs.Common.{◌≡◌, ℕ, ◌+◌, ◌-◌, ◌^◌, ◌<◌, ◌≤◌, Bool, true, false, ◌&&◌, nat_le, cond, Option, Some, None, IfSome, unwrap_or, slice_index, refl, arith}
use Rattle.std.proofs.lemmas.Bool.{and_parts, leb-true}
use Rattle.scenario_text.specs.Text.{Field, hex_digit, joined, pair_at, half_at, has_key_form, read_key}

-- a value, if there is one, is below so many
abbrev Below : ℕ → Option ℕ → Type 0
Below n o = IfSome o (λ v. v < n)

digit_below : (b : ℕ) → Below 16 (hex_digit b)
digit_below b = by (nat_le 48 b && nat_le b 57) (nat_le 97 b && nat_le b 102) refl refl
  where
    by : (decimal letter : Bool) → (nat_le 48 b && nat_le b 57) ≡ decimal → (nat_le 97 b && nat_le b 102) ≡ letter → Below 16 (cond decimal (Some (b - 48)) (cond letter (Some (b - 97 + 10)) None))
    by true letter d l = let high : b ≤ 57 = leb-true b 57 (and_parts (nat_le 48 b) (nat_le b 57) d).1 in omega (arith, high)
    by false true d l = let high : b ≤ 102 = leb-true b 102 (and_parts (nat_le 97 b) (nat_le b 102) l).1 in omega (arith, high)
    by false false d l = tt

pair_below : (high low : Option ℕ) → Below 16 high → Below 16 low → Below 256 (joined 16 high low)
pair_below (Some h) (Some l) high low = omega (arith, high, low)
pair_below None low h l = tt
pair_below (Some h) None high low = tt

half_below : (high low : Option ℕ) → Below 256 high → Below 256 low → Below 65536 (joined 256 high low)
half_below (Some h) (Some l) high low = omega (arith, high, low)
half_below None low h l = tt
half_below (Some h) None high low = tt

word_below : (high low : Option ℕ) → Below 65536 high → Below 65536 low → Below (2 ^ 32) (joined 65536 high low)
word_below (Some h) (Some l) high low = omega (arith, high, low)
word_below None low h l = tt
word_below (Some h) None high low = tt

-- a key is of 32 bits
pub key_below : (field : Field) → unwrap_or (read_key field) 0 < 2 ^ 32
key_below field = by (has_key_form field)
  where
    pair : (place : ℕ) → Below 256 (pair_at field place)
    pair place =
        pair_below (hex_digit (slice_index field place)) (hex_digit (slice_index field (place + 1))) (digit_below (slice_index field place))
        (digit_below (slice_index field (place + 1)))

    half : (place : ℕ) → Below 65536 (half_at field place)
    half place = half_below (pair_at field place) (pair_at field (place + 2)) (pair place) (pair (place + 2))

    or_zero : (o : Option ℕ) → Below (2 ^ 32) o → unwrap_or o 0 < 2 ^ 32
    or_zero (Some v) h = h
    or_zero None h = omega arith

    by : (formed : Bool) → unwrap_or (cond formed (joined 65536 (half_at field 1) (half_at field 5)) None) 0 < 2 ^ 32
    by true = or_zero _ (word_below (half_at field 1) (half_at field 5) (half 1) (half 5))
    by false = omega arith
