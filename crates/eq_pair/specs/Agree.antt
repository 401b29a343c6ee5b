-- What is asked of both sides of an object together.
use Rattle.std.specs.Prelude.{List}
use Rattle.bus_core.specs.Follow.{Follows}
use Rattle.bus_core.specs.TwoSides.{Party, Object, Sides, party, after_any}

-- along a trace, of each operation, by whoever makes it, in the states of both sides
abbrev pub Agree : {X D H L E : Type 0} → Object X D H L E → (Party → Sides D H → X → Type 0) → Sides D H → List X → Type 0
Agree {X = X} {D = D} {H = H} o agrees s trace = Follows (λ (t : Sides D H) (x : X). agrees (party o x) t x) (after_any o) s trace
