-- Values by number, one of which may be changed.
use Rattle.std.specs.Prelude.{ℕ, ◌==◌}
use Rattle.verbs_rules.specs.Family.{put}

abbrev pub put_number : {V : Type 0} → (ℕ → V) → ℕ → V → ℕ → V
put_number values number value = put (λ (m n : ℕ). m == n) values number value
