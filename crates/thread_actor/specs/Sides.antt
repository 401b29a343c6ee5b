-- The sides of a thread, over its queues.
use Rattle.std.specs.Prelude.{ℕ, ◌-◌, nat_le, if◌then◌else◌, List, slice_get, Option, None, Some}
use Rattle.verbs_types.specs.declared.completion.Queue.{Queue}
use Rattle.verbs_types.specs.declared.completion.Queue.TheVariants.{Send, Recv, Shared}
use Rattle.verbs_types.specs.declared.declaration.TheConstants.{FIRST_QP}
use Rattle.provider_post.specs.Side.{PostView}
use Rattle.provider_poll.specs.Poll.{PollView}

-- by place: of the send and the receive queue of each queue pair, and of each completion queue
pub record SidesView : Type 0 where
  pub sends : List (Option PostView)
  pub receives : List (Option PostView)
  pub polls : List (Option PollView)

abbrev pub joined : {S : Type 0} → Option (Option S) → Option S
joined None = None
joined (Some side) = side

-- the side at a place, if there is one
abbrev pub side_at : {S : Type 0} → List (Option S) → ℕ → Option S
side_at sides place = joined (slice_get sides place)

-- the side of a queue pair
abbrev pub pair_side : {S : Type 0} → List (Option S) → ℕ → Option S
pair_side sides qp = if nat_le FIRST_QP qp then side_at sides (qp - FIRST_QP) else None

abbrev pub post_side : SidesView → Queue → Option PostView
post_side s (Send qp) = pair_side s.sends qp
post_side s (Recv qp) = pair_side s.receives qp
post_side s (Shared srq) = None

abbrev pub poll_side : SidesView → ℕ → Option PollView
poll_side s cq = side_at s.polls cq

-- holds of a side, if it is there
abbrev pub IfThere : {S : Type 0} → (S → Type 0) → Option S → Type 0
IfThere holds None = Unit {0}
IfThere holds (Some side) = holds side
