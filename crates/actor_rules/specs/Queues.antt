-- What ties a work queue of words to one of the abstract state.
use Rattle.std.specs.Prelude.{◌≡◌, ◌++◌, List, length}
use Rattle.verbs_types.specs.declared.call.Call.{Call}
use Rattle.verbs_types.specs.declared.completion.Queue.{Queue}
use Rattle.verbs_types.specs.declared.declaration.Lines.{Lines}
use Rattle.verbs_types.specs.declared.request.Item.{Item}
use Rattle.verbs_rules.specs.State.{Verbs}
use Rattle.verbs_rules.specs.OfOne.{WorkQueue, queue_in}
use Rattle.counted_ring.specs.Queue as counted
use Rattle.provider_post.specs.Item.{IsWrittenItem}
use Rattle.actor_rules.specs.Thread.{Thread, queue_place, segments_of}
use Rattle.actor_rules.specs.Actors.{Actors}
use Rattle.actor_rules.specs.Matching.{Match}
use Rattle.actor_rules.specs.View.{View, view, written_in}

-- those of a thread, and of the one that posts on the queue
abbrev pub written_by : Queue → Thread → List Call → List Item
written_by queue t calls = written_in queue t.posting calls

abbrev pub written : List (List Call) → Actors → Queue → List Item
written programs w queue = (view programs w).written queue

-- a request of the words is this item
abbrev pub IsItem : Lines → Queue → counted.Request → Item → Type 0
IsItem d queue r item = IsWrittenItem (queue_place d queue) queue r.index item r.words r.id

-- A work queue of words, of which so much is written and not rung and this is told, stands for this one.
pub record QueueIs (d : Lines) (written_items told_items : List Item) (u : WorkQueue) (q : counted.Queue) (queue : Queue) : Type 0 where
  pub posted : Match (IsItem d queue) q.requests (u.posted ++ written_items)
  pub rung : q.rung ≡ length u.posted
  pub taken : u.taken ≡ q.taken
  pub retired : u.retired ≡ q.retired
  pub room : u.room ≡ (queue_place d queue).max_post
  pub segments : u.segments ≡ segments_of d queue
  -- what the history tells of it is what was posted
  pub told : told_items ≡ u.posted

abbrev pub QueueIn : Lines → View → Verbs → counted.Queue → Queue → Type 0
QueueIn d s v q queue = QueueIs d (s.written queue) (s.told queue) (queue_in v queue) q queue

abbrev pub QueueStands : Lines → List (List Call) → Actors → Verbs → counted.Queue → Queue → Type 0
QueueStands d programs w v q queue = QueueIn d (view programs w) v q queue
