-- The role of each actor in a phase of a run: what it knows there, its rule over its own operations, and what it knows after one.
use Rattle.std.specs.Prelude.{ℕ, zero, suc}
use Rattle.bus_core.specs.Mark.{Marked}
use Rattle.verbs_types.specs.declared.declaration.Lines.{Lines}
use Rattle.object_places.specs.Objects.{Mark}
use Rattle.device_engine.specs.State.{AdapterRule}
use Rattle.device_engine.specs.Rule.{after_adapt}
use Rattle.actor_rules.specs.Thread.{Thread}
use Rattle.actor_rules.specs.Calls.{MayThread, after_thread}
use Rattle.actor_rules.specs.Actors.{Actors, MayAdapter}

pub data Role : Type 0 where
  ForAdapter : Role
  -- the thread of this number
  ForThread : ℕ → Role
  -- it makes no operation
  Bystander : Role

-- in the turns actor 0 is the adapter, and every other is the thread of its number
abbrev pub turn_role : ℕ → Role
turn_role zero = ForAdapter
turn_role (suc t) = ForThread (suc t)

-- while a run opens and closes the threads stand by
abbrev pub alone_role : ℕ → Role
alone_role zero = ForAdapter
alone_role (suc t) = Bystander

abbrev pub KnowsAs : Role → Type 0
KnowsAs ForAdapter = AdapterRule
KnowsAs (ForThread x) = Thread
KnowsAs Bystander = Unit {0}

abbrev pub known_as : (role : Role) → Actors → KnowsAs role
known_as ForAdapter w = w.adapter
known_as (ForThread x) w = w.threads x
known_as Bystander w = tt

abbrev pub MayAs : Lines → (role : Role) → KnowsAs role → Marked Mark → Type 0
MayAs d ForAdapter s x = MayAdapter d s x
MayAs d (ForThread n) s x = MayThread d s n x
MayAs d Bystander s x = ⊥

abbrev pub next_as : Lines → (role : Role) → KnowsAs role → Marked Mark → KnowsAs role
next_as d ForAdapter s x = after_adapt d s x.entry
next_as d (ForThread n) s x = after_thread d s x
next_as d Bystander s x = s

-- In the turns

abbrev pub Knows : ℕ → Type 0
Knows actor = KnowsAs (turn_role actor)

abbrev pub part : (actor : ℕ) → Actors → Knows actor
part actor w = known_as (turn_role actor) w

abbrev pub May : Lines → (actor : ℕ) → Knows actor → Marked Mark → Type 0
May d actor = MayAs d (turn_role actor)

abbrev pub next : Lines → (actor : ℕ) → Knows actor → Marked Mark → Knows actor
next d actor = next_as d (turn_role actor)

-- an operation keeps its actor's rule
abbrev pub MayAny : Lines → Actors → Marked Mark → Type 0
MayAny d w x = May d x.entry.actor (part x.entry.actor w) x
