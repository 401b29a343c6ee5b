-- The law of calls that post.
use Rattle.std.specs.Prelude.{List}
use Rattle.verbs_types.specs.declared.call.Call.{Call}
use Rattle.verbs_types.specs.declared.declaration.Lines.{Lines}
use Rattle.verbs_rules.specs.Shape.{Shape, Posts}
use Rattle.verbs_rules.specs.Within.{Bounds}
use Rattle.actor_rules.specs.Holding.{CallsGo}

abbrev pub IsPost : Shape → Type 0
IsPost (Posts queue items) = Unit {0}
IsPost _ = ⊥

-- each operation of a thread in a call that posts keeps what holds
abbrev pub PostsGo : Lines → List (List Call) → Bounds → Type 0
PostsGo d programs total = CallsGo d programs total IsPost
