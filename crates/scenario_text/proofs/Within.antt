-- What a limit that is not passed says.
use Rattle.std.proofs.Common.{◌≡◌, ◌≤◌, Bool, true, false, ◌&&◌, nat_le, cond, List, [], ◌∷◌, Option, None, Some, refl}
use Rattle.std.specs.Bool.{⊤}
use Rattle.std.proofs.lemmas.Bool.{leb-true}
use Rattle.scenario_text.specs.Bounds.{passed_after}
use Rattle.scenario_text.specs.declared.bounds.Bound.{Bound}
use Rattle.scenario_text.specs.declared.sofar.Passed.{Passed}

-- each quantity is from its least to its most
abbrev pub AllWithin : List Bound → Type 0
AllWithin [] = ⊤
AllWithin (b ∷ bs) = (b.least ≤ b.value) × (b.value ≤ b.most) × AllWithin bs

stays : (p : Passed) (bs : List Bound) → passed_after (Some p) bs ≡ None → ⊥
stays p [] h = cc
stays p (b ∷ bs) h = stays p bs h

-- no limit is passed, and none was before
pub passed_none : (p : Option Passed) (bs : List Bound) → passed_after p bs ≡ None → (p ≡ None) × AllWithin bs
passed_none (Some p) bs h = absurd (stays p bs h)
passed_none None [] h = (refl, tt)
passed_none None (b ∷ bs) h = (refl, by (nat_le b.least b.value) (nat_le b.value b.most) refl refl (λ more. (passed_none None bs more).1) h)
  where
    by : (low high : Bool) → nat_le b.least b.value ≡ low → nat_le b.value b.most ≡ high → (passed_after None bs ≡ None → AllWithin bs)
        → passed_after (cond (low && high) None (Some (record { name = b.name; value = b.value }))) bs ≡ None → AllWithin (b ∷ bs)
    by true true low high rest h = (leb-true b.least b.value low, leb-true b.value b.most high, rest h)
    by true false low high rest h = absurd (stays _ bs h)
    by false high low is rest h = absurd (stays _ bs h)
