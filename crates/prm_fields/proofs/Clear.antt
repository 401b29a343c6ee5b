-- Fields whose bits are all 0.
use Rattle.std.proofs.Common.{◌≡◌, ℕ, ◌+◌, ◌-◌, ◌*◌, ◌/◌, ◌%◌, ◌^◌, ◌≤◌, nat_eq, List, slice_index, sym, refl, ◌∙◌, arith, bit_or}
use Rattle.std.proofs.lemmas.Nat.{le_or_l, le_or_r, pow_pos}
use Rattle.std.proofs.lemmas.Bool.Decides.{nat_tests}
use Rattle.std.proofs.Math.Nat.{le-mul_of_pos_right}
use Rattle.prm_fields.specs.Bits.{field_value}
use Rattle.prm_fields.proofs.Values.{field_value-add, field_value_in_byte}

-- two tests for 0 that hold together give one answer
pub same_tests : (a b : ℕ) → (a ≡ 0 → b ≡ 0) → (b ≡ 0 → a ≡ 0) → nat_eq a 0 ≡ nat_eq b 0
same_tests a b to back = grind (arith, nat_tests)

module _ (bytes : List ℕ) (first m i from count found : ℕ) (place : first + m ≡ 8 * i + from) (within : from + count ≤ 8) where
  next : field_value bytes first (m + count) ≡ field_value bytes first m * 2 ^ count + slice_index bytes i / 2 ^ (8 - from - count) % 2 ^ count
  next = rw (field_value-add bytes first m count, place, field_value_in_byte bytes i from count within) refl

  pub clear_more : (found ≡ 0 → field_value bytes first m ≡ 0) → bit_or found (slice_index bytes i / 2 ^ (8 - from - count) % 2 ^ count) ≡ 0 → field_value bytes first (m + count) ≡ 0
  clear_more earlier none =
      let part = slice_index bytes i / 2 ^ (8 - from - count) % 2 ^ count in
      let high : field_value bytes first m ≡ 0 = earlier (omega (arith, none, le_or_l found part)) in
      let low : part ≡ 0 = omega (arith, none, le_or_r found part) in
      next ∙ rw (high, low) (omega arith)

  pub found_more : (field_value bytes first m ≡ 0 → found ≡ 0) → field_value bytes first (m + count) ≡ 0 → bit_or found (slice_index bytes i / 2 ^ (8 - from - count) % 2 ^ count) ≡ 0
  found_more earlier none =
      let part = slice_index bytes i / 2 ^ (8 - from - count) % 2 ^ count in
      let sum : field_value bytes first m * 2 ^ count + part ≡ 0 = sym next ∙ none in
      let grown : field_value bytes first m ≤ field_value bytes first m * 2 ^ count = le-mul_of_pos_right _ (pow_pos count) in
      let high : field_value bytes first m ≡ 0 = omega (arith, sum, grown) in
      let low : part ≡ 0 = omega (arith, sum) in
      rw (earlier high, low) refl
