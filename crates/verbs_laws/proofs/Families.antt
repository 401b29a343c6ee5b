-- A family with one value changed, and numbers that are among some.
use Rattle.std.proofs.Common.{◌≡◌, ℕ, ◌-◌, ◌<◌, ◌≤◌, true, false, Bool, leb-true, ltb-true}
use Rattle.std.proofs.lemmas.Bool.{and_parts, cond-true, cond-false}
use Rattle.verbs_rules.specs.Family.{put}
use Rattle.verbs_types.specs.Lines.{is_among}

-- the value that was put, and the others
pub put_at : {K V : Type 0} (same : K → K → Bool) (f : K → V) (key : K) (v : V) (other : K) → same other key ≡ true → put same f key v other ≡ v
put_at same f key v other h = cond-true (same other key) v (f other) h

pub put_beside : {K V : Type 0} (same : K → K → Bool) (f : K → V) (key : K) (v : V) (other : K) → same other key ≡ false → put same f key v other ≡ f other
put_beside same f key v other h = cond-false (same other key) v (f other) h

pub among : (first count n : ℕ) → is_among first count n ≡ true → (first ≤ n) × (n - first < count)
among first count n h = let parts = and_parts _ _ h in (leb-true first n parts.0, ltb-true (n - first) count parts.1)
