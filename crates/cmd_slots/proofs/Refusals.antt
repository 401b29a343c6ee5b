-- The first refusal of rules that are judged in parts.
use Rattle.std.proofs.Common.{◌≡◌, refl, Bool, true, false, List, [], ◌∷◌, ◌++◌, Some, None, inl, inr}
use Rattle.std.proofs.lemmas.Bool.{cases_Bool}
use Rattle.std.specs.List.{AllByRecursion}
use Rattle.prm_fields.specs.Refusal.{Rule, rule, first_refusal}

module _ {Fault : Type 0} where
  -- the first rule of some is kept, and so are the others
  pub kept_first : (holds : Bool) (fault : Fault) (rules : List (Rule Fault)) → first_refusal (rule holds fault ∷ rules) ≡ None → (holds ≡ true) × (first_refusal rules ≡ None)
  kept_first true fault rules kept = (refl, kept)
  kept_first false fault rules kept = cc

  -- none is broken where each holds
  pub all_kept : (rules : List (Rule Fault)) → first_refusal rules ≡ None → AllByRecursion (λ (r : Rule Fault). r.holds ≡ true) rules
  all_kept [] kept = tt
  all_kept (r ∷ rules) kept = let first = kept_first r.holds r.otherwise rules kept in (first.0, all_kept rules first.1)

  pub kept_by_all : (rules : List (Rule Fault)) → AllByRecursion (λ (r : Rule Fault). r.holds ≡ true) rules → first_refusal rules ≡ None
  kept_by_all [] holds = refl
  kept_by_all (r ∷ rules) holds = let first = holds.0 in rw first (kept_by_all rules holds.1)

  pub behind_kept : (rules more : List (Rule Fault)) → first_refusal rules ≡ None → first_refusal (rules ++ more) ≡ first_refusal more
  behind_kept [] more kept = refl
  behind_kept (r ∷ rules) more kept = elim (cases_Bool r.holds) [
    | inl holds ↦ rw holds (behind_kept rules more (rw holds at kept))
    | inr broken ↦ let wrong : Some r.otherwise ≡ None = rw broken at kept in cc
  ]

  pub broken_first : (rules more : List (Rule Fault)) (fault : Fault) → first_refusal rules ≡ Some fault → first_refusal (rules ++ more) ≡ Some fault
  broken_first [] more fault broken = cc
  broken_first (r ∷ rules) more fault broken = elim (cases_Bool r.holds) [
    | inl holds ↦ rw holds (broken_first rules more fault (rw holds at broken))
    | inr fails ↦ rw fails (rw fails at broken)
  ]

  -- rules that are kept together are kept apart
  pub kept_parts : (rules more : List (Rule Fault)) → first_refusal (rules ++ more) ≡ None → (first_refusal rules ≡ None) × (first_refusal more ≡ None)
  kept_parts [] more kept = (refl, kept)
  kept_parts (r ∷ rules) more kept = elim (cases_Bool r.holds) [
    | inl holds ↦ rw holds (kept_parts rules more (rw holds at kept))
    | inr broken ↦ let wrong : Some r.otherwise ≡ None = rw broken at kept in absurd (cc)
  ]
