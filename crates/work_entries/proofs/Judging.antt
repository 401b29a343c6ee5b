-- Units that are judged one after another.
use Rattle.std.proofs.Common.{◌≡◌, ℕ, zero, suc, ◌+◌, ◌-◌, ◌<◌, ◌≤◌, Bool, true, false, List, [], ◌∷◌, ◌++◌, Option, cond, Some, None, ◌⊎◌, ⊎_elim, inl, inr, subst, refl, ap, ◌∙◌, arith, add-one}
use Rattle.std.proofs.lemmas.Bool.{cases_eq}
use Rattle.prm_fields.specs.Refusal.{Rule, first_refusal}
use Rattle.work_entries.specs.declared.fault.EntryRule.{EntryRule}
use Rattle.work_entries.specs.Rules.{at_unit, each_unit}

first_or_later : (k j : ℕ) → k ≤ j → (k ≡ j) ⊎ (k < j)
first_or_later k j low = ⊎_elim (λ (same : k ≡ j). inl same) (λ (apart : k ≡ j → ⊥). inr (omega arith)) (cases_eq k j)

-- what is left to judge from unit k on, up to unit `end`
module _ (rule : EntryRule) (holds : ℕ → Bool) (k end : ℕ) where
  left : k < end → each_unit rule holds k (end - k) ≡ at_unit k rule (holds k) ∷ each_unit rule holds (suc k) (end - suc k)
  left inside =
      let count : end - k ≡ suc (end - suc k) = omega arith in
      ap (each_unit rule holds k) count

  -- a unit that keeps the rule
  pub passed : k < end → holds k ≡ true → first_refusal (each_unit rule holds k (end - k)) ≡ first_refusal (each_unit rule holds (k + 1) (end - (k + 1)))
  passed inside kept = ap first_refusal (left inside) ∙ rw (kept, add-one) refl

-- a rule before others that are not broken
pub kept_first : {Fault : Type 0} (holds : Bool) (rest : Option Fault) (fault : Fault) → cond holds rest (Some fault) ≡ None → (holds ≡ true) × (rest ≡ None)
kept_first true rest fault kept = (refl, kept)
kept_first false rest fault kept = cc

broken_first : {Fault : Type 0} (holds : Bool) (rest more : Option Fault) (other fault : Fault) → (rest ≡ Some fault → more ≡ Some fault) → cond holds rest (Some other) ≡ Some fault → cond holds more (Some other) ≡ Some fault
broken_first true rest more other fault step broken = step broken
broken_first false rest more other fault step broken = broken

-- rules behind rules that hold, and behind rules of which one is broken
pub first_refusal-append_none : {Fault : Type 0} (xs ys : List (Rule Fault)) → first_refusal xs ≡ None → first_refusal (xs ++ ys) ≡ first_refusal ys
first_refusal-append_none [] ys kept = refl
first_refusal-append_none (x ∷ xs) ys kept =
    let parts = kept_first x.holds (first_refusal xs) x.otherwise kept in
    rw (parts.0) (first_refusal-append_none xs ys parts.1)

pub first_refusal-append_some : {Fault : Type 0} (xs ys : List (Rule Fault)) (fault : Fault) → first_refusal xs ≡ Some fault → first_refusal (xs ++ ys) ≡ Some fault
first_refusal-append_some [] ys fault broken = cc
first_refusal-append_some (x ∷ xs) ys fault broken =
    broken_first x.holds (first_refusal xs) (first_refusal (xs ++ ys)) x.otherwise fault (first_refusal-append_some xs ys fault) broken

-- each unit keeps a rule that is not broken
pub each_kept : (rule : EntryRule) (holds : ℕ → Bool) (k count : ℕ) → first_refusal (each_unit rule holds k count) ≡ None → (j : ℕ) → k ≤ j → j < k + count → holds j ≡ true
each_kept rule holds k zero kept j low high = absurd (omega arith)
each_kept rule holds k (suc count) kept j low high =
    let parts = kept_first (holds k) (first_refusal (each_unit rule holds (suc k) count)) (record { unit = k; why = rule }) kept in
    ⊎_elim
    (λ here. subst (λ (i : ℕ). holds i ≡ true) here parts.0)
    (λ (later : k < j). each_kept rule holds (suc k) count parts.1 j later (omega arith))
    (first_or_later k j low)

-- and a rule that each unit keeps is not broken
pub none_broken : (rule : EntryRule) (holds : ℕ → Bool) (k count : ℕ) → ((j : ℕ) → k ≤ j → j < k + count → holds j ≡ true) → first_refusal (each_unit rule holds k count) ≡ None
none_broken rule holds k zero kept = refl
none_broken rule holds k (suc count) kept = rw (kept k (omega arith) (omega arith)) (none_broken rule holds (suc k) count (λ j low high. kept j (omega arith) (omega arith)))
