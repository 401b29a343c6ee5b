-- An operation of a call that posts, which may be about to begin.
use Rattle.std.specs.Prelude.{ℕ, ◌≡◌, ◌<◌, ◌≤◌, ◌^◌, Bool, true, false, List, length, slice_get, slice_set, unwrap_or, Option, None, Some}
use Rattle.std.specs.List.{AllByRecursion}
use Rattle.bus_core.specs.declared.operation.BusEntry.{BusEntry}
use Rattle.bus_core.specs.declared.turn.Step.{Step}
use Rattle.bus_core.specs.declared.turn.Step.TheVariants.{More, Gave, Done}
use Rattle.bus_core.specs.Port.{Port}
use Rattle.verbs_types.specs.declared.request.Item.{Item}
use Rattle.counted_ring.specs.Turn.{CanServe}
use Rattle.provider_post.specs.declared.answer.PostAnswer.{PostAnswer}
use Rattle.provider_post.specs.Call.{fresh_call}
use Rattle.provider_post.specs.Item.{CanTake}
use Rattle.provider_post.specs.Side.{PostView, PostTurn, IsListOf, with_call}
use Rattle.thread_actor.specs.declared.posts.Posted.{Posted}

-- the side with its call, which begins where none is under way
abbrev pub begun : PostView → ℕ → PostView
begun side count = with_call side (Some (unwrap_or side.call (fresh_call count)))

-- a call of `count` items can begin
pub record CanBegin (side : PostView) (count : ℕ) : Type 0 where
  pub some : 0 < count
  pub few : count ≤ 16
  pub posted : side.poster.side.count < 2 ^ 61
  pub index : side.poster.side.index < 2 ^ 61

-- a call of these items can begin
pub record MayBegin (side : PostView) (items : List Item) : Type 0 where
  pub taken : AllByRecursion (CanTake side.poster.place) items
  pub task : side.poster.task ≡ None
  pub begin : CanBegin side (length items)

-- the side is at a call of these items, or may begin it
pub record MayGoOn (side : PostView) (items : List Item) : Type 0 where
  pub list : IsListOf side items
  pub begins : side.call ≡ None → MayBegin side items

-- the operation was the call's last one
abbrev pub is_over : Step (Unit {0}) PostAnswer → Bool
is_over (Done answer) = true
is_over _ = false

pub record GoesOn (old new : PostView) (items : List Item) (e : BusEntry) (posted : Posted) : Type 0 where
  pub answer : Step (Unit {0}) PostAnswer
  pub turn : PostTurn (begun old (length items)) new items e answer
  pub over : posted.is_over ≡ is_over answer
  pub noted : posted.noted ≡ new.noted

-- the side of a place can go on
pub record Ready (sides : List (Option PostView)) (place : ℕ) (items : List Item) : Type 0 where
  pub side : PostView
  pub found : slice_get sides place ≡ Some (Some side)
  pub may : MayGoOn side items

-- a port through which the side of a place can make its next operation
abbrev pub CanServeAt : {Bus : Type 0} → List (Option PostView) → ℕ → Port Bus → Type 0
CanServeAt sides place port = (side : PostView) → slice_get sides place ≡ Some (Some side) → CanServe side.poster.place port

-- it went on, and all others are as before
pub record Posts (old new : List (Option PostView)) (place : ℕ) (items : List Item) (e : BusEntry) (posted : Posted) : Type 0 where
  pub before : PostView
  pub after : PostView
  pub found : slice_get old place ≡ Some (Some before)
  pub sides : new ≡ slice_set old place (Some after)
  pub goes : GoesOn before after items e posted
