-- A list in an array of fixed size.
use Rattle.std.specs.Prelude.{ℕ, ◌-◌, List, ◌++◌, length, replicate}

-- a list, filled up to `size` items
abbrev pub filled : {T : Type 0} → ℕ → T → List T → List T
filled size rest items = items ++ replicate (size - length items) rest
