-- Reading a row bit by bit, and which rows can be read.
use Rattle.std.proofs.Common.{◌≡◌, ℕ, ◌+◌, ◌*◌, ◌^◌, ◌<◌, List, refl, arith}
use Rattle.std.proofs.Math.Numerals.{add-one}
use Rattle.std.proofs.Math.Pow.{pow_mono}
use Rattle.prm_fields.specs.Bits.{bit_of, field_value}
use Rattle.prm_fields.proofs.Values.{field_value-lt}

-- one more bit
pub field_value-more : (bytes : List ℕ) (first k : ℕ) → 2 * field_value bytes first k + bit_of bytes (first + k) ≡ field_value bytes first (k + 1)
unfolding field_value
field_value-more bytes first k = rw (add-one k) refl

-- up to 64 bits fit
pub field_value-fits : (bytes : List ℕ) (first k : ℕ) → k < 64 → 2 * field_value bytes first k + bit_of bytes (first + k) < 2 ^ 64
field_value-fits bytes first k narrow =
    omega (arith, field_value-more bytes first k, field_value-lt bytes first (k + 1), pow_mono {i = k + 1} {j = 64} (omega (arith, narrow)))
