-- The law of calls that take completions.
use Rattle.std.specs.Prelude.{List}
use Rattle.verbs_types.specs.declared.call.Call.{Call}
use Rattle.verbs_types.specs.declared.declaration.Lines.{Lines}
use Rattle.verbs_rules.specs.Shape.{Shape, Takes}
use Rattle.verbs_rules.specs.Within.{Bounds}
use Rattle.actor_rules.specs.Holding.{CallsGo}

abbrev pub IsPoll : Shape → Type 0
IsPoll (Takes cq taking) = Unit {0}
IsPoll _ = ⊥

-- each operation of a thread in a call that takes completions keeps what holds
abbrev pub PollsGo : Lines → List (List Call) → Bounds → Type 0
PollsGo d programs total = CallsGo d programs total IsPoll
