-- The one thread that uses a side of a queue is the first that does.
use Rattle.std.proofs.Common.{◌≡◌, ◌≢◌, ℕ, zero, suc, ◌+◌, ◌<◌, ◌≤◌, ◌⊎◌, inl, inr, Bool, true, false, if◌then◌else◌, nat_lt, List, [], ◌∷◌, length, refl, sym, ◌∙◌, ap, arith, slice_index_or}
use Rattle.std.specs.List.{list_any, All, AllByRecursion}
use Rattle.std.proofs.lemmas.Bool.{false≢true, ltb-true, ltb-false, or_left, or_right}
use Rattle.std.proofs.lemmas.List.{get_or_past}
use Rattle.verbs_types.specs.declared.call.Call.{Call}
use Rattle.verbs_types.specs.declared.declaration.Lines.{Lines}
use Rattle.scenario_text.specs.Calls.{IsOfOneThread, IsCall, IsProgram}
use Rattle.actor_rules.specs.Owners.{first_with}

abbrev pub calls_of : List (List Call) → ℕ → List Call
calls_of programs t = slice_index_or programs t []

pub first_at : (test : Call → Bool) (programs : List (List Call)) (t : ℕ) → list_any test (calls_of programs t) ≡ true → ((i : ℕ) → i < t → list_any test (calls_of programs i) ≡ false) → first_with test programs ≡ suc t
first_at test [] zero here before = absurd (false≢true here)
first_at test [] (suc t) here before = absurd (false≢true here)
first_at test (p ∷ programs) zero here before = ap (λ b. if b then 1 else first_with test programs + 1) here
first_at test (p ∷ programs) (suc t) here before =
    let rest : first_with test programs ≡ suc t = first_at test programs t here (λ i low. before (suc i) (omega (arith, low))) in
    ap (λ b. if b then 1 else first_with test programs + 1) (before 0 (omega arith)) ∙ omega (arith, rest)

-- a thread that makes a call is one of those that there are
inside : (test : Call → Bool) (programs : List (List Call)) (t : ℕ) → list_any test (calls_of programs t) ≡ true → t < length programs
inside test programs t here = by (nat_lt t (length programs)) refl
  where
    by : (b : Bool) → nat_lt t (length programs) ≡ b → t < length programs
    by true e = ltb-true t (length programs) e
    by false e = absurd (false≢true (sym (ap (list_any test) (get_or_past programs t [] (ltb-false t (length programs) e))) ∙ here))

pub owner_is : (test : Call → Bool) (programs : List (List Call)) (t : ℕ) → IsOfOneThread test programs → list_any test (calls_of programs t) ≡ true → first_with test programs ≡ suc t
owner_is test programs t one here = first_at test programs t here (λ i low. none i low)
  where
    none : (i : ℕ) → i < t → list_any test (calls_of programs i) ≡ false
    none i low = elim (one i t [] low (inside test programs t here)) [ inl h ↦ h | inr h ↦ absurd (false≢true (sym h ∙ here)) ]

-- of two threads one has no such call
ordered : (programs : List (List Call)) (uses : Call → Bool) → IsOfOneThread uses programs → (t u : ℕ) → t < u → (list_any uses (calls_of programs t) ≡ false) ⊎ (list_any uses (calls_of programs u) ≡ false)
ordered programs uses one t u below = by (nat_lt u (length programs)) refl
  where
    by : (b : Bool) → nat_lt u (length programs) ≡ b → (list_any uses (calls_of programs t) ≡ false) ⊎ (list_any uses (calls_of programs u) ≡ false)
    by true e = one t u [] below (ltb-true u (length programs) e)
    by false e = inr (ap (list_any uses) (get_or_past programs u [] (ltb-false u (length programs) e)))

pub one_of_two : (programs : List (List Call)) (uses : Call → Bool) → IsOfOneThread uses programs → (t u : ℕ) → t ≢ u → (list_any uses (calls_of programs t) ≡ false) ⊎ (list_any uses (calls_of programs u) ≡ false)
one_of_two programs uses one t u apart = by (nat_lt t u) refl
  where
    by : (b : Bool) → nat_lt t u ≡ b → (list_any uses (calls_of programs t) ≡ false) ⊎ (list_any uses (calls_of programs u) ≡ false)
    by true e = ordered programs uses one t u (ltb-true t u e)
    by false e =
        let le : u ≤ t = ltb-false t u e in
        let above : u < t = omega (arith, le, apart) in
        elim (ordered programs uses one u t above) [ inl h ↦ inr h | inr h ↦ inl h ]

-- the calls of a thread that there may not be
pub program_at : (d : Lines) (programs : List (List Call)) → All (IsProgram d) programs → (t : ℕ) → All (IsCall d) (calls_of programs t)
program_at d [] all zero = λ k c low. absurd (omega (arith, low))
program_at d [] all (suc t) = λ k c low. absurd (omega (arith, low))
program_at d (p ∷ programs) all zero = (all 0 p (omega arith)).1
program_at d (p ∷ programs) all (suc t) = program_at d programs (λ k q low. all (suc k) q (omega (arith, low))) t

-- each call of a program is one of them
pub each_among : (d : Lines) (P : Call → Type 0) (calls rest : List Call) → ((test : Call → Bool) → list_any test rest ≡ true → list_any test calls ≡ true)
    → ((c : Call) → IsCall d c → ((test : Call → Bool) → test c ≡ true → list_any test calls ≡ true) → P c) → All (IsCall d) rest → AllByRecursion P rest
each_among d P calls [] within each all = tt
each_among d P calls (c ∷ rest) within each all = (
  each c (all 0 c (omega arith)) (λ test h. within test (or_left (test c) (list_any test rest) h)),
  each_among d P calls rest (λ test h. within test (or_right (test c) (list_any test rest) h)) each (λ k e low. all (suc k) e (omega (arith, low))),
)
