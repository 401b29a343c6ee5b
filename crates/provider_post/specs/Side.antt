-- What a side that posts is to a caller, and what a turn of it does.
use Rattle.std.specs.Prelude.{ℕ, ◌≡◌, ◌<◌, true, false, List, length, Option, Some, None, unwrap_or, slice_get}
use Rattle.bus_core.specs.declared.operation.BusEntry.{BusEntry}
use Rattle.bus_core.specs.declared.turn.Step.{Step}
use Rattle.bus_core.specs.declared.turn.Note.{Note}
use Rattle.verbs_types.specs.declared.completion.Queue.{Queue}
use Rattle.verbs_types.specs.declared.request.Item.{Item}
use Rattle.counted_ring.specs.declared.place.WqPlace.{WqPlace}
use Rattle.counted_ring.specs.Place.{touches}
use Rattle.counted_ring.specs.Poster.{Stage, Ready}
use Rattle.counted_ring.specs.PosterView as poster
use Rattle.counted_ring.specs.PosterView.{PosterView, PosterTask, Posting, Doorbell}
use Rattle.counted_ring.specs.Rung.{rung_of, rung_after}
use Rattle.provider_post.specs.declared.call.Call.{Call}
use Rattle.provider_post.specs.declared.answer.PostAnswer.{PostAnswer}
use Rattle.provider_post.specs.Call.{fresh_call, mark_of}
use Rattle.provider_post.specs.Left.{left_of}
use Rattle.provider_post.specs.Item.{CanTake, IsNextItem}
use Rattle.provider_post.specs.Rule.{PostRule, MayPostSide, post_side_poster, post_side_call, post_side_answer, post_side_note}

pub record PostView : Type 0 where
  -- the queue's poster: where the queue lies, what was posted and rung, and what is being written
  pub poster : PosterView
  -- which queue it is
  pub queue : Queue
  pub call : Option Call
  -- the note of the last turn's operation
  pub noted : Option Note

-- an idle side of an empty queue, whose first block has this index
abbrev pub fresh_view : WqPlace → Queue → ℕ → PostView
fresh_view place queue start = record { poster = poster.fresh place start; queue = queue; call = None; noted = None }

-- a side with this call under way
abbrev pub with_call : PostView → Option Call → PostView
with_call v call = record v { call = call }

-- how many turns the call that is under way takes at most from here on
abbrev pub turns_left : PostView → ℕ
turns_left v = left_of v.poster.side.stage v.call

-- nothing is under way at a poster, and it has rung for all that it posted
pub record IsAtRest (poster : PosterView) : Type 0 where
  pub task : poster.task ≡ None
  pub stage : poster.side.stage ≡ Ready
  pub rung : rung_of poster.side ≡ poster.rung

-- A call may be dropped of which the history tells nothing: its record is not stored, and the queue was not found full.
abbrev pub MayDrop : Option Call → Type 0
MayDrop None = Unit {0}
MayDrop (Some c) = (c.recorded ≡ false) × (c.refused ≡ None)

-- an idle side that has posted only what was rung
abbrev pub forgotten : PostView → PostView
forgotten v = record v { poster = poster.forgotten v.poster; call = None }

-- the call of a side that is not idle
abbrev pub call_of : PostView → Call
call_of v = unwrap_or v.call (fresh_call 0)

-- what is being written is the item that comes next
abbrev pub IsNext : WqPlace → Queue → ℕ → Option Item → Option PosterTask → Type 0
IsNext place queue index next None = Unit {0}
IsNext place queue index next (Some (Posting words id)) = IsNextItem place queue index next words id
IsNext place queue index next (Some Doorbell) = Unit {0}

-- as many items as the call has, of which the queue can take each
pub record IsListFor (poster : PosterView) (queue : Queue) (items : List Item) (c : Call) : Type 0 where
  pub count : length items ≡ c.count
  pub taken : (k : ℕ) (item : Item) → slice_get items k ≡ Some item → CanTake poster.place item
  pub next : IsNext poster.place queue poster.side.index (slice_get items c.accepted) poster.task

abbrev pub IsListIn : PosterView → Queue → List Item → Option Call → Type 0
IsListIn poster queue items None = Unit {0}
IsListIn poster queue items (Some c) = IsListFor poster queue items c

-- the list of the call that is under way
abbrev pub IsListOf : PostView → List Item → Type 0
IsListOf v items = IsListIn v.poster v.queue items v.call

-- where the rule of a call stands
abbrev pub rule_of : PostView → PostRule
rule_of v = record { poster = v.poster.side; call = call_of v }

-- one operation of a call, as the call's rule has it
pub record PostTurn (old new : PostView) (items : List Item) (e : BusEntry) (answer : Step (Unit {0}) PostAnswer) : Type 0 where
  pub may : MayPostSide old.poster.place old.queue items (rule_of old) e
  pub inside : touches old.poster.place e.addr ≡ true
  pub side : new.poster.side ≡ post_side_poster old.poster.place (rule_of old) e
  pub call : new.call ≡ post_side_call old.poster.place (rule_of old) e
  pub answer_is : answer ≡ post_side_answer old.poster.place (rule_of old) e
  pub noted : new.noted ≡ post_side_note old.poster.place old.queue items (rule_of old) e
  pub rung : new.poster.rung ≡ rung_after (mark_of (call_of old)) old.poster.side old.poster.rung
  pub fewer : turns_left new < turns_left old
  pub rest : new.call ≡ None → IsAtRest new.poster
  pub goes_on : IsListOf new items
  pub place : new.poster.place ≡ old.poster.place
  pub queue : new.queue ≡ old.queue
