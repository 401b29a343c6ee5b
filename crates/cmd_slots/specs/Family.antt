-- What each slot has.
use Rattle.std.specs.Prelude.{ℕ, ◌==◌, if◌then◌else◌}

-- the same, with this value for one slot
abbrev pub put : {X : Type 0} → (ℕ → X) → ℕ → X → ℕ → X
put family slot value other = if slot == other then value else family other
