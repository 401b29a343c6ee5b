-- Which calls a thread can make.
use Rattle.std.specs.Prelude.{◌<◌, ◌≤◌, List, length}
use Rattle.std.specs.List.{AllByRecursion}
use Rattle.verbs_types.specs.declared.call.Call.{Call}
use Rattle.verbs_types.specs.declared.declaration.Lines.{Lines}
use Rattle.verbs_types.specs.declared.request.Item.{Item}
use Rattle.verbs_rules.specs.Shape.{Shape, Posts, Takes, shape_of, most_of}
use Rattle.counted_ring.specs.declared.place.WqPlace.{WqPlace}
use Rattle.object_places.specs.Objects.{Object, Completions, Lives}
use Rattle.provider_post.specs.Item.{CanTake}
use Rattle.actor_rules.specs.Thread.{queue_place, queue_object}

-- the object on whose words a call makes its operations; a poll stores tails of send queues too
abbrev pub object_in : Shape → Object
object_in (Posts queue items) = queue_object queue
object_in (Takes cq taking) = Completions cq

abbrev pub object_of : Call → Object
object_of call = object_in (shape_of call)

-- 1 to 16 items, of which the queue can take each
pub record CanPost (place : WqPlace) (items : List Item) : Type 0 where
  pub some : 0 < length items
  pub few : length items ≤ 16
  pub taken : AllByRecursion (CanTake place) items

-- a post is of items that entries can carry, and a poll of 1 to 16 completions
abbrev pub IsInLimits : Lines → Shape → Type 0
IsInLimits d (Posts queue items) = CanPost (queue_place d queue) items
IsInLimits d (Takes cq taking) = (0 < most_of taking) × (most_of taking ≤ 16)

-- the call is on a declared object, and within the limits
pub record CanCall (d : Lines) (call : Call) : Type 0 where
  pub lives : Lives d (object_of call)
  pub fits : IsInLimits d (shape_of call)
