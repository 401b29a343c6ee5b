-- Which programs may run: each call is its thread's own, and all calls together are within the limits.
use Rattle.std.specs.Prelude.{ℕ, suc, ◌≡◌, ◌<◌, ◌≤◌, true, List, length, map, IsTrue}
use Rattle.std.specs.List.{AllByRecursion, list_all, flat_map}
use Rattle.verbs_types.specs.declared.call.Call.{Call}
use Rattle.verbs_types.specs.declared.completion.Queue.{Queue}
use Rattle.verbs_types.specs.declared.declaration.Lines.{Lines}
use Rattle.verbs_types.specs.declared.request.Item.{Item}
use Rattle.verbs_rules.specs.Answered.{Due, due_by}
use Rattle.verbs_types.specs.Lines.{is_declared}
use Rattle.verbs_types.specs.declared.completion.Queue.TheVariants.{Send}
use Rattle.verbs_rules.specs.Proper.{IsNop}
use Rattle.verbs_rules.specs.Rows.{item_fits}
use Rattle.verbs_rules.specs.Within.{Bounds, InBounds}
use Rattle.verbs_rules.specs.Start.{start}
use Rattle.verbs_rules.specs.Shape.{Shape, Posts, Takes, shape_of, most_of, count_of}
use Rattle.object_places.specs.Objects.{Lives, Completions}
use Rattle.actor_rules.specs.Owners.{poster_of, poller_of}
use Rattle.actor_rules.specs.Thread.{program_of, QueueLives, segments_of}

-- on a send queue only requests without operation are built
abbrev pub AreBuilt : Queue → List Item → Type 0
AreBuilt (Send qp) items = AllByRecursion IsNop items
AreBuilt _ items = Unit {0}

-- a thread's calls are on living objects, whose sides are its own, and within the limits
pub record IsOwnPost (d : Lines) (programs : List (List Call)) (x : ℕ) (queue : Queue) (items : List Item) : Type 0 where
  pub lives : QueueLives d queue
  pub owner : poster_of programs queue ≡ x
  pub some : 0 < length items
  pub fits : list_all (item_fits queue (segments_of d queue)) items ≡ true
  pub built : AreBuilt queue items

pub record IsOwnPoll (d : Lines) (programs : List (List Call)) (x cq most : ℕ) : Type 0 where
  pub lives : Lives d (Completions cq)
  pub owner : poller_of programs cq ≡ x
  pub some : 0 < most
  pub few : most ≤ 16

abbrev pub IsOwnIn : Lines → List (List Call) → ℕ → Shape → Type 0
IsOwnIn d programs x (Posts queue items) = IsOwnPost d programs x queue items
IsOwnIn d programs x (Takes cq taking) = IsOwnPoll d programs x cq (most_of taking) × (0 < count_of taking)

abbrev pub IsOwnCall : Lines → List (List Call) → ℕ → Call → Type 0
IsOwnCall d programs x call = IsOwnIn d programs x (shape_of call)

-- what the threads owe before their first operation
abbrev pub first_dues : List (List Call) → List (List Due)
first_dues programs = map (flat_map due_by) programs

-- The objects are declared, each call is its thread's own, and the state in which the run begins is within these bounds.
pub record AreReady (d : Lines) (programs : List (List Call)) (bounds : Bounds) : Type 0 where
  pub declared : IsTrue (is_declared d)
  pub calls : (t : ℕ) → AllByRecursion (IsOwnCall d programs (suc t)) (program_of programs (suc t))
  pub bounded : InBounds (length d.qps) bounds (start d) (first_dues programs)
