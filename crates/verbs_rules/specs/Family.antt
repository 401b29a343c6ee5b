-- Values by a number or a name, one of which may be changed.
use Rattle.std.specs.Prelude.{ℕ, ◌==◌, Bool, if◌then◌else◌}

-- the same values, but for this key
abbrev pub put : {K V : Type 0} → (K → K → Bool) → (K → V) → K → V → K → V
put same f key value other = if same other key then value else f other

abbrev pub same_number : ℕ → ℕ → Bool
same_number m n = m == n
