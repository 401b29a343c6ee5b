-- The entries of a call to post, of a send or a receive queue, are legal steps of the abstract state.
use Rattle.std.proofs.Common.{◌≡◌, ℕ, suc, ◌≤◌, ◌+◌, ◌-◌, ◌==◌, if◌then◌else◌, true, List, [], ◌∷◌, ◌++◌, length, take, slice_set}
use Rattle.std.specs.List.{list_all}
use Rattle.verbs_types.specs.declared.completion.Queue.{Queue}
use Rattle.verbs_types.specs.declared.completion.Queue.TheVariants as queues
use Rattle.verbs_types.specs.declared.declaration.Lines.{Lines}
use Rattle.verbs_types.specs.declared.entry.What.TheVariants.{Post, PostFull}
use Rattle.verbs_types.specs.declared.request.Item.{Item}
use Rattle.verbs_rules.specs.Answered.{Due, Posting, Accepting}
use Rattle.verbs_rules.specs.Rows.{item_fits}
use Rattle.verbs_rules.specs.Proper.{Owes}
use Rattle.verbs_rules.specs.Within.{Bounds, InBounds, Goes}
use Rattle.verbs_rules.specs.State.{Verbs}
use Rattle.verbs_laws.proofs.GoesPost.{posting_shown, accepting_shown, full_shown}
use Rattle.verbs_laws.proofs.GoesReceive.{receiving_goes, receiving_accepted_goes, receiving_full_goes}
use Rattle.actor_rules.specs.Thread.{QueueLives}

module _ (d : Lines) (n : ℕ) (bounds : Bounds) (v : Verbs) (dues : List (List Due)) (t : ℕ) (items : List Item) (rest : List Due) (bounded : InBounds n bounds v dues) where
  -- the queue has room for the items, and each fits it
  pub record CanPost (queue : Queue) : Type 0 where
    pub room : length (v.posted queue) + length items - (v.settled queue).retired ≤ v.limits.room queue
    pub fits : list_all (item_fits queue (v.limits.segments queue)) items ≡ true

  pub whole_goes : (queue : Queue) → QueueLives d queue → Owes dues t (Posting queue items) rest → CanPost queue → Goes n bounds v (suc t) (Post queue items) (slice_set dues t rest)
  whole_goes (queues.Send qp) lives o can = posting_shown n bounds v dues t qp items rest bounded o can.room
  whole_goes (queues.Recv qp) lives o can = receiving_goes n bounds v dues t qp items rest bounded o (record { room = can.room; fit = can.fits })
  whole_goes (queues.Shared srq) lives o can = absurd lives

  pub part_goes : (queue : Queue) → QueueLives d queue → Owes dues t (Accepting queue items) rest → CanPost queue → Goes n bounds v (suc t) (Post queue items) (slice_set dues t rest)
  part_goes (queues.Send qp) lives o can = accepting_shown n bounds v dues t qp items rest bounded o can.room
  part_goes (queues.Recv qp) lives o can = receiving_accepted_goes n bounds v dues t qp items rest bounded o (record { room = can.room; fit = can.fits })
  part_goes (queues.Shared srq) lives o can = absurd lives

  -- the queue is full, where so many of the call's items count
  pub record IsFull (queue : Queue) (pending head tail : ℕ) : Type 0 where
    pub head_is : head ≡ length (v.posted queue) + pending
    pub tail_is : tail ≡ (v.settled queue).retired
    pub full : head - tail ≡ v.limits.room queue

  pub full_goes : (queue : Queue) (pending head tail : ℕ) → QueueLives d queue → Owes dues t (Posting queue items) rest → IsFull queue pending head tail
      → Goes n bounds v (suc t) (PostFull queue pending head tail) (slice_set dues t ((if pending == 0 then [] else Accepting queue (take pending items) ∷ []) ++ rest))
  full_goes (queues.Send qp) pending head tail lives o f = full_shown n bounds v dues t qp items rest bounded o pending head tail f.head_is f.tail_is f.full
  full_goes (queues.Recv qp) pending head tail lives o f = receiving_full_goes n bounds v dues t qp items rest bounded pending head tail o f.head_is f.tail_is f.full
  full_goes (queues.Shared srq) pending head tail lives o f = absurd lives
