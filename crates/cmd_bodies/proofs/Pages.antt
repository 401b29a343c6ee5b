-- Page addresses written one after another.
use Rattle.std.proofs.Common.{◌≡◌, ℕ, ◌+◌, ◌*◌, ◌<◌, List, slice_index, ⊎_elim, inl, ap, sym, ◌∙◌, arith}
use Rattle.std.proofs.lemmas.Bool.{cases_lt}
use Rattle.prm_fields.specs.Bits.{field_value, KeepsOtherBits}
use Rattle.prm_fields.proofs.Parts.{kept_field}

pub words_written : (mid new pages : List ℕ) (k : ℕ)
    → ((j : ℕ) → j < k → field_value mid (128 + 64 * j) 64 ≡ slice_index pages j)
    → field_value new (64 * (2 + k)) 64 ≡ slice_index pages k
    → KeepsOtherBits mid new (64 * (2 + k)) 64
    → (j : ℕ) → j < k + 1 → field_value new (128 + 64 * j) 64 ≡ slice_index pages j
words_written mid new pages k earlier stored kept j low =
    ⊎_elim
    (λ before. kept_field mid new (128 + 64 * j) 64 (64 * (2 + k)) 64 kept (inl (omega arith)) ∙ earlier j before)
    (λ here.
    let same : j ≡ k = omega arith in
    ap (λ n. field_value new n 64) (omega arith) ∙ stored ∙ ap (slice_index pages) (sym same))
    (cases_lt j k)
