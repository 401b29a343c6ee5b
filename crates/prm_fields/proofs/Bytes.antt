-- A byte with some of its bits replaced.
use Rattle.std.proofs.Common.{◌≡◌, ℕ, ◌+◌, ◌-◌, ◌*◌, ◌/◌, ◌%◌, ◌^◌, ◌<◌, sym, ap, ◌∙◌, arith, bit_and, bit_or}
use Rattle.std.proofs.lemmas.Nat.{shr-shr, mod_below, pow_pos, pow-add, shl_whole, or_shifted, one_shl, and_mask, shr_below, shr_high, mod_low, mul-add-lt}

-- the bits before, the new bits and the bits after, as one number
abbrev pub joined : ℕ → ℕ → ℕ → ℕ → ℕ → ℕ
joined byte from count after value = (byte / 2 ^ (8 - from) * 2 ^ count + value % 2 ^ count) * 2 ^ after + byte % 2 ^ after

-- the same, as shifts and masks of 64 bits give it
abbrev pub shifted : ℕ → ℕ → ℕ → ℕ → ℕ → ℕ
shifted byte from count after value =
    bit_or
    (bit_or (byte / 2 ^ (8 - from) * 2 ^ count % 2 ^ 64) (bit_and value (1 * 2 ^ count % 2 ^ 64 - 1)) * 2 ^ after % 2 ^ 64)
    (bit_and byte (1 * 2 ^ after % 2 ^ 64 - 1))

module _ (byte from count after value : ℕ) (small : byte < 2 ^ 8) (whole : from + count + after ≡ 8) where
  before_lt : byte / 2 ^ (8 - from) < 2 ^ from
  before_lt = shr_below byte from (8 - from) (let width : from + (8 - from) ≡ 8 = omega arith in rw width small)

  here_lt : value % 2 ^ count < 2 ^ count
  here_lt = mod_below _ (2 ^ count) (pow_pos count)

  after_lt : byte % 2 ^ after < 2 ^ after
  after_lt = mod_below _ (2 ^ after) (pow_pos after)

  high_lt : byte / 2 ^ (8 - from) * 2 ^ count + value % 2 ^ count < 2 ^ (from + count)
  high_lt = omega (arith, pow-add 2 from count, mul-add-lt _ (2 ^ count) _ (2 ^ from) before_lt here_lt)

  pub joined_lt : joined byte from count after value < 2 ^ 8
  joined_lt =
      let width : 2 ^ (from + count) * 2 ^ after ≡ 2 ^ 8 = sym (pow-add 2 (from + count) after) ∙ ap (λ n. 2 ^ n) whole in
      omega (arith, width, mul-add-lt _ (2 ^ after) _ (2 ^ (from + count)) high_lt after_lt)

  pub shifted_is : shifted byte from count after value ≡ joined byte from count after value
  shifted_is =
      let before = shl_whole (byte / 2 ^ (8 - from)) from count 64 before_lt (omega arith) in
      let here = ap (bit_and value) (ap (λ n. n - 1) (one_shl count 64 (omega arith))) ∙ and_mask value count in
      let rest = ap (bit_and byte) (ap (λ n. n - 1) (one_shl after 64 (omega arith))) ∙ and_mask byte after in
      let high = or_shifted (byte / 2 ^ (8 - from)) count (value % 2 ^ count) here_lt in
      let moved = shl_whole (byte / 2 ^ (8 - from) * 2 ^ count + value % 2 ^ count) (from + count) after 64 high_lt (omega arith) in
      rw (before, here, high, moved, rest) (or_shifted (byte / 2 ^ (8 - from) * 2 ^ count + value % 2 ^ count) after (byte % 2 ^ after) after_lt)

  pub joined_after : joined byte from count after value % 2 ^ after ≡ byte % 2 ^ after
  joined_after = mod_low _ after _ after_lt

  above_after : joined byte from count after value / 2 ^ after ≡ byte / 2 ^ (8 - from) * 2 ^ count + value % 2 ^ count
  above_after = shr_high _ after _ after_lt

  pub joined_here : joined byte from count after value / 2 ^ after % 2 ^ count ≡ value % 2 ^ count
  joined_here = rw above_after (mod_low _ count _ here_lt)

  pub joined_before : joined byte from count after value / 2 ^ (8 - from) ≡ byte / 2 ^ (8 - from)
  joined_before =
      let width : 8 - from ≡ after + count = omega arith in
      let apart = sym (shr-shr (joined byte from count after value) after count) in
      ap (λ n. joined byte from count after value / 2 ^ n) width ∙ apart ∙ ap (λ n. n / 2 ^ count) above_after ∙ shr_high _ count _ here_lt
