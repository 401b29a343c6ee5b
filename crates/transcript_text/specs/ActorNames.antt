-- The names of all actors in one list.
use Rattle.std.specs.Prelude.{ℕ, ◌+◌, ◌==◌, if◌then◌else◌, List, ◌∷◌, codes}
use Rattle.verbs_types.specs.declared.declaration.Lines.{Lines}
use Rattle.verbs_types.specs.declared.entry.TheConstants.{CONTROL}

-- those of `ctl` and of the adapter, and then those of the threads
abbrev pub actor_names : Lines → List (List ℕ)
actor_names d = codes "ctl" ∷ codes "dev" ∷ d.threads

-- where the name of an actor stands
abbrev pub place_of : ℕ → ℕ
place_of actor = if actor == CONTROL then 0 else actor + 1
