-- How the fields of a side are seen.
use Rattle.std.specs.Prelude.{ℕ, ◌≡◌, ◌+◌, ◌*◌, ◌^◌, ◌<◌, ◌≤◌, true, false, Option, Some, None}
use Rattle.verbs_types.specs.declared.completion.Queue.{Queue}
use Rattle.verbs_types.specs.declared.completion.Queue.TheVariants.{Send, Recv}
use Rattle.counted_ring.specs.Place.{is_send}
use Rattle.counted_ring.specs.Poster.{Stage, Ready, Ringing}
use Rattle.counted_ring.specs.PosterView.{PosterView, PosterTask, Posting, Doorbell}
use Rattle.counted_ring.specs.Rung.{Rung, rung_of}
use Rattle.provider_post.specs.declared.call.Call.{Call}
use Rattle.provider_post.specs.declared.queue_side.QueueSide.TheInside.{Inside}
use Rattle.provider_post.specs.Call.{is_written}
use Rattle.provider_post.specs.Side.{PostView, IsAtRest}
use Rattle.provider_post.specs.Queued.{IsQueuePlace}

abbrev pub side_view : Inside → PostView
side_view a = record { poster = a.poster; queue = a.queue; call = a.call; noted = a.noted }

-- what is under way is what the call is at: an item, or the ring
abbrev pub TaskFits : Call → Option PosterTask → Type 0
TaskFits c None = Unit {0}
TaskFits c (Some (Posting words id)) = is_written c ≡ false
TaskFits c (Some Doorbell) = is_written c ≡ true

-- what the poster has done of the ring
pub record StageFits (c : Call) (stage : Stage) : Type 0 where
  pub writes : is_written c ≡ false → c.recorded ≡ false
  pub record_next : is_written c ≡ true → c.recorded ≡ false → stage ≡ Ready
  pub register_next : c.recorded ≡ true → stage ≡ Ringing

-- what was posted since the last ring
pub record RungFits (c : Call) (side rung : Rung) : Type 0 where
  pub count : c.recorded ≡ false → rung.count + c.accepted ≡ side.count
  pub index : rung.index ≤ side.index
  pub none : c.accepted ≡ 0 → side ≡ rung
  pub all : c.recorded ≡ true → side ≡ rung

-- counts and indices below 2 ^ 61 at the call's beginning stay low
pub record IsAtCall (poster : PosterView) (c : Call) : Type 0 where
  pub few : c.count ≤ 16
  pub some : c.accepted ≤ c.count
  pub rings_some : is_written c ≡ true → 0 < c.accepted
  pub count_low : poster.side.count < 2 ^ 61 + c.accepted
  pub index_low : poster.side.index < 2 ^ 61 + 4 * c.accepted
  pub fits : TaskFits c poster.task
  pub stage : StageFits c poster.side.stage
  pub rung : RungFits c (rung_of poster.side) poster.rung

abbrev pub IsAtWork : PosterView → Option Call → Type 0
IsAtWork poster None = IsAtRest poster
IsAtWork poster (Some c) = IsAtCall poster c

pub record IsSide (poster : PosterView) (queue : Queue) (call : Option Call) : Type 0 where
  pub place : IsQueuePlace poster.place queue
  pub work : IsAtWork poster call

abbrev pub IsQueueSide : Inside → Type 0
IsQueueSide a = IsSide a.poster a.queue a.call

-- a side of the send queue of this queue pair
pub record IsSends (side : PostView) (number : ℕ) : Type 0 where
  pub queue : side.queue ≡ Send number
  pub number_low : number < 2 ^ 24
  pub register : is_send side.poster.place ≡ true
  pub stride : side.poster.place.stride ≡ 8

-- a side of a receive queue with blocks of `stride` words
pub record IsReceives (side : PostView) (stride : ℕ) : Type 0 where
  pub number : ℕ
  pub queue : side.queue ≡ Recv number
  pub register : is_send side.poster.place ≡ false
  pub stride_is : side.poster.place.stride ≡ stride
  pub few : stride ≤ 16
