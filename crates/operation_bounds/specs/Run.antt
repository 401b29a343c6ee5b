-- The bounds of all actors in a run.
use Rattle.std.specs.Prelude.{ℕ, suc, List}
use Rattle.bus_core.specs.Follow.{Follows}
use Rattle.bus_core.specs.Mark.{Marked}
use Rattle.verbs_types.specs.declared.call.Call.{Call}
use Rattle.verbs_types.specs.declared.declaration.Lines.{Lines}
use Rattle.object_places.specs.Objects.{Mark}
use Rattle.actor_rules.specs.Actors.{fresh_actors}
use Rattle.actor_rules.specs.Roles.{May, next, part}
use Rattle.actor_rules.specs.Run.{own}
use Rattle.operation_bounds.specs.Calls.{CallsEnd}
use Rattle.operation_bounds.specs.Drains.{DrainsLook, DrainsTake}
use Rattle.operation_bounds.specs.Adapter.{AdapterGoesOn}

-- an actor's own operations, from its first one on, which keep its rule
abbrev pub KeepsRule : Lines → List (List Call) → ℕ → List (Marked Mark) → Type 0
KeepsRule d programs x ops = Follows (May d x) (next d x) (part x (fresh_actors d programs)) ops

-- of a thread's own operations
pub record AreBounded (d : Lines) (programs : List (List Call)) (x : ℕ) (ops : List (Marked Mark)) : Type 0 where
  -- a post, receive call or poll of n parts ends within 64 n + 64 operations
  pub calls_end : CallsEnd d programs x ops
  -- a drain looks again and again, with fewer than 64 operations between
  pub drains_look : DrainsLook d programs x ops
  -- what a look of a drain finds is told as taken after at most 64 operations more
  pub drains_take : DrainsTake d programs x ops

pub record IsBoundedRun (d : Lines) (programs : List (List Call)) (trace : List (Marked Mark)) : Type 0 where
  pub threads : (t : ℕ) → AreBounded d programs (suc t) (own (suc t) trace)
  pub adapter : AdapterGoesOn d (own 0 trace)
