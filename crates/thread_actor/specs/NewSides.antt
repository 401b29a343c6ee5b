-- The sides of a thread that has done nothing yet.
use Rattle.std.specs.Prelude.{ℕ, ◌≡◌, length, IsSome, IsTrue}
use Rattle.verbs_types.specs.declared.completion.Queue.{Queue}
use Rattle.verbs_types.specs.declared.declaration.Lines.{Lines}
use Rattle.verbs_types.specs.declared.call.Call.{Call}
use Rattle.verbs_types.specs.Lines.{is_declared}
use Rattle.actor_map.specs.Sizes.{words_of}
use Rattle.object_places.specs.Places.{IsWithin}
use Rattle.provider_post.specs.Side.{PostView, fresh_view}
use Rattle.provider_poll.specs.Fresh.{fresh_poll}
use Rattle.provider_poll.specs.Poll.{PollView, LiesWithin}
use Rattle.actor_rules.specs.Thread.{queue_place, queue_start}
use Rattle.thread_actor.specs.Sides.{SidesView, post_side, poll_side, IfThere}
use Rattle.thread_actor.specs.Stands.{HasSide}

pub record IsNewPost (d : Lines) (queue : Queue) (side : PostView) : Type 0 where
  pub fresh : side ≡ fresh_view (queue_place d queue) queue (queue_start d queue)
  pub within : IsWithin (words_of d) side.poster.place

pub record IsNewPoll (d : Lines) (cq : ℕ) (side : PollView) : Type 0 where
  pub fresh : side ≡ fresh_poll d cq
  pub within : LiesWithin (words_of d) side

-- there is a place for each queue of declared lines, and each side is new
pub record AreNew (d : Lines) (s : SidesView) : Type 0 where
  pub declared : IsTrue (is_declared d)
  pub sends : length s.sends ≡ length d.qps
  pub receives : length s.receives ≡ length d.qps
  pub polls : length s.polls ≡ length d.cqs
  pub posts : (queue : Queue) → IfThere (IsNewPost d queue) (post_side s queue)
  pub takes : (cq : ℕ) → IfThere (IsNewPoll d cq) (poll_side s cq)

-- The side of the call is there too, and so are all that were there.
pub record Adds (d : Lines) (old new : SidesView) (call : Call) : Type 0 where
  pub are_new : AreNew d new
  pub has : HasSide new call
  pub kept : (other : Call) → HasSide old other → HasSide new other

-- the same of the side of a work queue, and of a completion queue
pub record AddsPost (d : Lines) (old new : SidesView) (queue : Queue) : Type 0 where
  pub are_new : AreNew d new
  pub has : IsSome (post_side new queue)
  pub kept : (other : Call) → HasSide old other → HasSide new other

pub record AddsPoll (d : Lines) (old new : SidesView) (cq : ℕ) : Type 0 where
  pub are_new : AreNew d new
  pub has : IsSome (poll_side new cq)
  pub kept : (other : Call) → HasSide old other → HasSide new other
