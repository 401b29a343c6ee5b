-- The law of the adapter.
use Rattle.std.specs.Prelude.{List}
use Rattle.verbs_types.specs.declared.call.Call.{Call}
use Rattle.verbs_types.specs.declared.declaration.Lines.{Lines}
use Rattle.verbs_rules.specs.Within.{Bounds}
use Rattle.actor_rules.specs.Holding.{ActorGoes}

-- each operation of the adapter keeps what holds
abbrev pub AdapterGoes : Lines → List (List Call) → Bounds → Type 0
AdapterGoes d programs total = ActorGoes d programs total 0 (λ w. Unit {0})
