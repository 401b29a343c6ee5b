-- The limits of event queues, one queue after another.
use Rattle.std.proofs.Common.{◌≡◌, ℕ, zero, suc, ◌+◌, ◌<◌, ◌≤◌, List, [], ◌∷◌, length, drop, slice_index_or, Option, refl, sym, ap, ap₂, ◌∙◌, subst, arith}
use Rattle.verbs_types.specs.declared.declaration.EqLine.{EqLine}
use Rattle.scenario_text.specs.Bounds.{bound, passed_by, passed_after, event_bounds, events_on, size_of}
use Rattle.scenario_text.specs.Sofar.{Said}
use Rattle.scenario_text.specs.declared.bounds.Bound.{Bound}
use Rattle.scenario_text.specs.declared.fault.LimitName.TheVariants as limits
use Rattle.scenario_text.specs.declared.sofar.Passed.{Passed}

abbrev pub with_passed : Said → Option Passed → Said
with_passed s p = record s { passed = p }

-- the limits of the first queues were noted
pub record Noted (before now : Said) (n : ℕ) : Type 0 where
  pub same : now ≡ with_passed before now.passed
  pub rest : passed_after now.passed (event_bounds before.lines n (drop n before.lines.eqs)) ≡ passed_after before.passed (event_bounds before.lines 0 before.lines.eqs)

pub noted_none : (before : Said) → Noted before before 0
noted_none before = record { same = refl; rest = refl }

pub drop_here : {A : Type 0} (xs : List A) (n : ℕ) (d : A) → n < length xs → drop n xs ≡ slice_index_or xs n d ∷ drop (suc n) xs
drop_here [] n d low = absurd (omega (arith, low))
drop_here (x ∷ xs) zero d low = refl
drop_here (x ∷ xs) (suc n) d low = drop_here xs n d (omega (arith, low))

-- one more was noted
pub noted_next : (before now after : Said) (n : ℕ) (l : EqLine) (b : Bound) → Noted before now n → n < length now.lines.eqs → l ≡ slice_index_or now.lines.eqs n l
    → b ≡ bound limits.Events (events_on now.lines n) 0 (size_of l.log) → after ≡ with_passed now (passed_by now.passed b) → Noted before after (n + 1)
noted_next before now after n l b h low is bound_is next =
    let lines : now.lines ≡ before.lines = ap (λ (s : Said). s.lines) h.same in
    let below : n < length before.lines.eqs = subst (λ d. n < length d.eqs) lines low in
    let passed : after.passed ≡ passed_by now.passed b = ap (λ (s : Said). s.passed) next in
    let whole : after ≡ with_passed before (passed_by now.passed b) = next ∙ ap (λ (s : Said). with_passed s (passed_by now.passed b)) h.same in
    let item : l ≡ slice_index_or before.lines.eqs n l = is ∙ ap (λ d. slice_index_or d.eqs n l) lines in
    let limit : b ≡ bound limits.Events (events_on before.lines n) 0 (size_of (slice_index_or before.lines.eqs n l).log) =
    bound_is ∙ ap₂ (λ d (k : EqLine). bound limits.Events (events_on d n) 0 (size_of k.log)) lines item in
    let one : suc n ≡ n + 1 = omega arith in
    record {
      same = whole ∙ ap (with_passed before) (sym passed);
      rest =
          ap (λ p. passed_after p (event_bounds before.lines (n + 1) (drop (n + 1) before.lines.eqs))) (passed ∙ ap (passed_by now.passed) limit)
          ∙ sym (subst (λ m. passed_after now.passed (event_bounds before.lines n (drop n before.lines.eqs)) ≡ passed_after (passed_by now.passed (bound limits.Events (events_on before.lines n) 0 (size_of (slice_index_or before.lines.eqs n l).log))) (event_bounds before.lines (n + 1) (drop m before.lines.eqs))) one
          (ap (λ ls. passed_after now.passed (event_bounds before.lines n ls)) (drop_here before.lines.eqs n l below)))
          ∙ h.rest;
    }

-- all were noted
pub noted_all : (before now : Said) (n : ℕ) → Noted before now n → length before.lines.eqs ≤ n → now ≡ with_passed before (passed_after before.passed (event_bounds before.lines 0 before.lines.eqs))
noted_all before now n h high = h.same ∙ ap (with_passed before) (sym (ap (λ ls. passed_after now.passed (event_bounds before.lines n ls)) (drop_none before.lines.eqs n high)) ∙ h.rest)
  where
    drop_none : {A : Type 0} (xs : List A) (n : ℕ) → length xs ≤ n → drop n xs ≡ []
    drop_none [] zero high = refl
    drop_none [] (suc n) high = refl
    drop_none (x ∷ xs) zero high = absurd (omega (arith, high))
    drop_none (x ∷ xs) (suc n) high = drop_none xs n (omega (arith, high))
