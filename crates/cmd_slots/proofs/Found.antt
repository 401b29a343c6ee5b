-- The bits of the slots in a number of 32 bits.
use Rattle.std.proofs.Common.{◌≡◌, ◌≢◌, ℕ, zero, suc, ◌+◌, ◌-◌, ◌*◌, ◌%◌, ◌^◌, ◌<◌, ◌≤◌, min, max, inl, inr, ap, sym, ◌∙◌, arith, Bool, true, false, eqb, ◌||◌, bit_and, bit_or}
use Rattle.std.specs.Int.{w32, bit_at, trailing_zeros}
use Rattle.std.proofs.lemmas.Bool.{cases_lt, cases_eq, eq-eqb, ne_eqb}
use Rattle.std.proofs.lemmas.Nat.Bits.{bit_at_and, bit_at_or, bit_at-lt, bit_at-zero, bit_at_above, bit_at_clear_same, bit_at_clear_other, bit_at-trailing_zeros}
use Rattle.cmd_slots.specs.Place.{IsSlot}
use Rattle.cmd_slots.specs.Family.{put}
use Rattle.cmd_slots.specs.Device.{has_bit}
use Rattle.cmd_slots.specs.BitsView.{Cleared}
use Rattle.cmd_slots.proofs.Tied.{put_here, put_there}

pub has_bit_or : (a b slot : ℕ) → has_bit (bit_or a b) slot ≡ (has_bit a slot || has_bit b slot)
has_bit_or a b slot = ap (λ bit. eqb bit 1) (bit_at_or a b slot) ∙ either (bit_at a slot) (bit_at b slot) (bit_at-lt a slot) (bit_at-lt b slot) where
  either : (x y : ℕ) → x < 2 → y < 2 → eqb (max x y) 1 ≡ (eqb x 1 || eqb y 1)
  either zero zero x y = search
  either zero (suc zero) x y = search
  either (suc zero) zero x y = search
  either (suc zero) (suc zero) x y = search
  either (suc (suc n)) b x y = absurd (omega (arith, x))
  either a (suc (suc n)) x y = absurd (omega (arith, y))

pub has_no_bit : (slot : ℕ) → has_bit 0 slot ≡ false
has_no_bit slot = ap (λ bit. eqb bit 1) (bit_at-zero slot)

pub lowest_bit : (bits : ℕ) → bits ≢ 0 → bits < 2 ^ 32 → (trailing_zeros w32 bits < 32) × (has_bit bits (trailing_zeros w32 bits) ≡ true) × ((other : ℕ) → other < trailing_zeros w32 bits → has_bit bits other ≡ false)
lowest_bit bits some small =
    let lowest = bit_at-trailing_zeros w32 bits (omega (arith, some)) small in
    (lowest.0, ap (λ bit. eqb bit 1) lowest.1, λ other below. ap (λ bit. eqb bit 1) (lowest.2 other below))

-- one bit less
pub cleared : (bits slot : ℕ) → bits < 2 ^ 32 → IsSlot slot → Cleared slot bits (bit_and bits (4294967295 - 1 * 2 ^ slot % 4294967296))
cleared bits slot small ok other = elim (cases_eq slot other) [
  | inl same ↦
      let gone : has_bit new other ≡ false = ap (λ n. has_bit new n) (sym same) ∙ ap (λ bit. eqb bit 1) (bit_at_clear_same w32 bits slot ok) in
      put_here (λ b. has_bit new other ≡ b) (has_bit bits) slot false other same gone
  | inr differ ↦ put_there (λ b. has_bit new other ≡ b) (has_bit bits) slot false other differ (ap (λ bit. eqb bit 1) (kept differ))
] where
  new : ℕ
  new = bit_and bits (4294967295 - 1 * 2 ^ slot % 4294967296)

  kept : slot ≢ other → bit_at new other ≡ bit_at bits other
  kept differ = elim (cases_lt other 32) [
    | inl low ↦ bit_at_clear_other w32 bits slot ok other low (λ same. differ (sym same))
    | inr high ↦
        let none : bit_at bits other ≡ 0 = bit_at_above bits 32 other small high in
        omega (arith, none, bit_at_and bits (4294967295 - 1 * 2 ^ slot % 4294967296) other)
  ]
