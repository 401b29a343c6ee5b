-- Values by a key, one of which is changed twice or to what it was.
use Rattle.std.proofs.Common.{◌≡◌, Bool, true, false, if◌then◌else◌, refl, sym, ◌∙◌, ap}
use mathlib.Core.Path.{fun_ext}
use Rattle.verbs_rules.specs.Family.{put}

twice : {V : Type 0} (b : Bool) (x y z : V) → (if b then x else (if b then y else z)) ≡ (if b then x else z)
twice true x y z = refl
twice false x y z = refl

pub put-put : {K V : Type 0} (same : K → K → Bool) (f : K → V) (k : K) (v u : V) → put same (put same f k v) k u ≡ put same f k u
put-put same f k v u = fun_ext (λ j. twice (same j k) u v (f j))

chosen : {K V : Type 0} (f : K → V) (j k : K) (b : Bool) (v : V) → (b ≡ true → j ≡ k) → f k ≡ v → (if b then v else f j) ≡ f j
chosen f j k true v to e = sym e ∙ ap f (sym (to refl))
chosen f j k false v to e = refl

-- a value that was there already
pub put_same : {K V : Type 0} (same : K → K → Bool) (f : K → V) (k : K) (v : V) → ((j : K) → same j k ≡ true → j ≡ k) → f k ≡ v → put same f k v ≡ f
put_same same f k v to e = fun_ext (λ j. chosen f j k (same j k) v (to j) e)
