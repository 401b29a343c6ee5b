-- Arithmetic of blocks, entries and strides.
use Rattle.std.proofs.Common.{◌≡◌, ℕ, ◌+◌, ◌-◌, ◌*◌, ◌%◌, ◌^◌, ◌<◌, ◌≤◌, ◌⊎◌, inl, inr, Bool, true, false, cond, nat_le, refl, ap, ◌∙◌, subst, arith}
use Rattle.std.proofs.Math.Nat.{mul-mod_left}
use Rattle.std.proofs.Math.Pow.{pow_mono}
use Rattle.std.proofs.lemmas.Nat.{pow-add}
use Rattle.actor_map.specs.Sizes.{stride}

-- a power of two up to 2^16 divides 2^16
pub divides : (log : ℕ) → log ≤ 16 → 2 ^ 16 % 2 ^ log ≡ 0
divides log few =
    let sum : 16 ≡ 16 - log + log = omega (arith, few) in
    ap (λ n. 2 ^ n % 2 ^ log) sum ∙ (ap (λ n. n % 2 ^ log) (pow-add 2 (16 - log) log) ∙ mul-mod_left (2 ^ (16 - log)) (2 ^ log))

-- and four times it too
pub divides_by_four : (log : ℕ) → log ≤ 8 → 2 ^ 16 % (4 * 2 ^ log) ≡ 0
divides_by_four log few = let same : 2 ^ (2 + log) ≡ 4 * 2 ^ log = pow-add 2 2 log in subst (λ n. 2 ^ 16 % n ≡ 0) same (divides (2 + log) (omega (arith, few)))

abbrev IsStride : ℕ → Type 0
IsStride n = (n ≡ 2) ⊎ (n ≡ 4) ⊎ (n ≡ 8) ⊎ (n ≡ 16)

stride_is : (s : ℕ) → IsStride (stride s)
stride_is s = by (nat_le s 1) (nat_le s 2) (nat_le s 4)
  where
    by : (a b c : Bool) → IsStride (cond a 2 (cond b 4 (cond c 8 16)))
    by true b c = inl refl
    by false true c = inr (inl refl)
    by false false true = inr (inr (inl refl))
    by false false false = inr (inr (inr refl))

pub record IsShort (n : ℕ) : Type 0 where
  pub some : 0 < n
  pub few : n ≤ 16

pub stride_short : (s : ℕ) → IsShort (stride s)
stride_short s = elim (stride_is s) [
  | inl a ↦ rw a (record { some = omega arith; few = omega arith })
  | inr b ↦ elim b [
    | inl c ↦ rw c (record { some = omega arith; few = omega arith })
    | inr d ↦ elim d [
      | inl e ↦ rw e (record { some = omega arith; few = omega arith })
      | inr f ↦ rw f (record { some = omega arith; few = omega arith })
    ]
  ]
]

-- entries of one word more
pub one_more : (s n : ℕ) → (s + 1) * n ≡ s * n + n
one_more s n = omega arith

-- the entries of receives, each with an id
pub receives_few : (s n : ℕ) → n ≤ 256 → (stride s + 1) * n ≤ 4352
receives_few s n h = elim (stride_is s) [
  | inl a ↦ rw a (omega (arith, h))
  | inr b ↦ elim b [ inl c ↦ rw c (omega (arith, h)) | inr d ↦ elim d [ inl e ↦ rw e (omega (arith, h)) | inr f ↦ rw f (omega (arith, h)) ] ]
]

pub pow_some : (log : ℕ) → 1 ≤ 2 ^ log
pow_some log = pow_mono {i = 0} (omega arith)
