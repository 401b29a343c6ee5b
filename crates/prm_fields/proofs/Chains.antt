-- A row of puts, one after another: each field holds what was put last, where no later put touches it.
use Rattle.std.proofs.Common.{◌≡◌, ℕ, zero, suc, ◌⊎◌, ◌+◌, ◌≤◌, Bool, true, ◌&&◌, ◌||◌, nat_le, List, [], ◌∷◌, slice_index, replicate, refl, ap, ◌∙◌, ⊎_elim, inl, inr, arith, ◌/◌}
use Rattle.std.specs.List.{AllByRecursion}
use Rattle.std.proofs.lemmas.Bool.{and_parts, or_cases, leb-true}
use Rattle.prm_fields.specs.Bits.{bit_of, field_value, KeepsOtherBits}
use Rattle.prm_fields.proofs.Parts.{kept_field}

-- a value put into the `width` bits from `bit` on
pub record Put : Type 0 where
  pub bit : ℕ
  pub width : ℕ
  pub value : ℕ

abbrev pub put_of : ℕ → ℕ → ℕ → Put
put_of bit width value = record { bit = bit; width = width; value = value }

-- `old` became `new` by these puts
abbrev pub Chain : List Put → List ℕ → List ℕ → Type 0
Chain [] old new = new ≡ old
Chain (p ∷ ps) old new = (mid : List ℕ) × (field_value mid p.bit p.width ≡ p.value) × KeepsOtherBits old mid p.bit p.width × Chain ps mid new

-- whether no put touches the `width` bits from `bit` on
abbrev pub is_apart : ℕ → ℕ → List Put → Bool
is_apart bit width [] = true
is_apart bit width (p ∷ ps) = (nat_le (bit + width) p.bit || nat_le (p.bit + p.width) bit) && is_apart bit width ps

-- whether no put touches what an earlier one wrote
abbrev pub are_apart : List Put → Bool
are_apart [] = true
are_apart (p ∷ ps) = is_apart p.bit p.width ps && are_apart ps

apart_or : (a b c d : ℕ) → (nat_le a b || nat_le c d) ≡ true → (a ≤ b) ⊎ (c ≤ d)
apart_or a b c d h = ⊎_elim (λ p. inl (leb-true a b p)) (λ q. inr (leb-true c d q)) (or_cases (nat_le a b) (nat_le c d) h)

pub untouched : (ps : List Put) (old new : List ℕ) → Chain ps old new → (bit width : ℕ) → is_apart bit width ps ≡ true → field_value new bit width ≡ field_value old bit width
untouched [] old new chain bit width apart = ap (λ bytes. field_value bytes bit width) chain
untouched (p ∷ ps) old new chain bit width apart =
    let parts = and_parts (nat_le (bit + width) p.bit || nat_le (p.bit + p.width) bit) (is_apart bit width ps) apart in
    untouched ps chain.0 new chain.3 bit width parts.1 ∙ kept_field old chain.0 bit width p.bit p.width chain.2 (apart_or (bit + width) p.bit (p.bit + p.width) bit parts.0)

pub all_hold : (ps : List Put) (old new : List ℕ) → Chain ps old new → are_apart ps ≡ true → AllByRecursion (λ p. field_value new p.bit p.width ≡ p.value) ps
all_hold [] old new chain apart = tt
all_hold (p ∷ ps) old new chain apart =
    let parts = and_parts (is_apart p.bit p.width ps) (are_apart ps) apart in
    (untouched ps chain.0 new chain.3 p.bit p.width parts.0 ∙ chain.1, all_hold ps chain.0 new chain.3 parts.1)

-- a byte string of zeros
pub field_value-zeros : (bytes : List ℕ) → ((k : ℕ) → slice_index bytes k ≡ 0) → (bit width : ℕ) → field_value bytes bit width ≡ 0
unfolding field_value
field_value-zeros bytes zeros bit zero = refl
field_value-zeros bytes zeros bit (suc width) =
    let induction = field_value-zeros bytes zeros bit width in
    let last : bit_of bytes (bit + width) ≡ 0 = rw (zeros ((bit + width) / 8)) (omega arith) in
    omega (arith, induction, last)

pub zeros_read : (n k : ℕ) → slice_index (replicate n 0) k ≡ 0
zeros_read zero k = refl
zeros_read (suc n) zero = refl
zeros_read (suc n) (suc k) = zeros_read n k
