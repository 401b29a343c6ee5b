-- What a call is to its thread, whatever it is called. What is said of calls goes by this.
use Rattle.std.specs.Prelude.{ℕ, List, map}
use Rattle.verbs_types.specs.declared.call.Call.{Call}
use Rattle.verbs_types.specs.declared.call.Call.TheVariants.{Post, Recv, Poll, Drain}
use Rattle.verbs_types.specs.declared.completion.Queue.{Queue}
use Rattle.verbs_types.specs.declared.completion.Queue.TheVariants as queues
use Rattle.verbs_types.specs.declared.request.Item.{Item}
use Rattle.verbs_types.specs.declared.request.Item.TheVariants.{Request as TheRequest, Receive as TheReceive}

-- how a call takes completions: in one poll for at most so many, or one by one until it has so many
pub data Taking : Type 0 where
  Once : (most : ℕ) → Taking
  Until : (count : ℕ) → Taking

pub data Shape : Type 0 where
  -- it posts these items on a queue
  Posts : (queue : Queue) (items : List Item) → Shape
  -- it takes completions of a completion queue
  Takes : (cq : ℕ) (taking : Taking) → Shape

abbrev pub shape_of : Call → Shape
shape_of (Post qp requests) = Posts (queues.Send qp) (map TheRequest requests)
shape_of (Recv qp receives) = Posts (queues.Recv qp) (map TheReceive receives)
shape_of (Poll cq most) = Takes cq (Once most)
shape_of (Drain cq count) = Takes cq (Until count)

-- how many completions each poll of it is for at most
abbrev pub most_of : Taking → ℕ
most_of (Once most) = most
most_of (Until count) = 1

-- how many completions it takes at most, over all its polls
abbrev pub count_of : Taking → ℕ
count_of (Once most) = most
count_of (Until count) = count
