-- Rules that are judged in order, and the refusal that the first broken one brings.
use Rattle.std.specs.Prelude.{◌≡◌, Bool, cond, List, [], ◌∷◌, Option, Some, None, Result, MatchResult}

-- a rule and the refusal where it does not hold
pub record Rule (Fault : Type 0) : Type 0 where
  pub holds : Bool
  pub otherwise : Fault

abbrev pub rule : {Fault : Type 0} → Bool → Fault → Rule Fault
rule holds fault = record { holds = holds; otherwise = fault }

-- the refusal of the first rule that does not hold
abbrev pub first_refusal : {Fault : Type 0} → List (Rule Fault) → Option Fault
first_refusal [] = None
first_refusal (r ∷ rs) = cond r.holds (first_refusal rs) (Some r.otherwise)

-- an error exactly where a rule is broken, and then that of the first
abbrev pub RefusesBy : {T Fault : Type 0} → Result T Fault → List (Rule Fault) → Type 0
RefusesBy result rules = MatchResult result (λ _. first_refusal rules ≡ None) (λ fault. first_refusal rules ≡ Some fault)
