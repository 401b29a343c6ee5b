-- How a call to post goes on.
use Rattle.std.specs.Prelude.{ℕ, ◌+◌, ◌==◌, ◌&&◌, ◌||◌, if◌then◌else◌, not, Bool, true, false, Option, Some, None, is_some}
use Rattle.bus_core.specs.declared.turn.Step.{Step}
use Rattle.bus_core.specs.declared.turn.Step.TheVariants.{More, Gave, Done}
use Rattle.counted_ring.specs.declared.poster.Posted.{Posted}
use Rattle.counted_ring.specs.declared.poster.Posted.TheVariants as posted
use Rattle.counted_ring.specs.Mark.{WqMark, Post, Ring}
use Rattle.counted_ring.specs.Queue as queue
use Rattle.counted_ring.specs.Queue.{WqEvent}
use Rattle.provider_post.specs.declared.call.Call.{Call}
use Rattle.provider_post.specs.declared.post_step.PostStep.{PostStep}
use Rattle.provider_post.specs.declared.post_step.PostStep.TheVariants.{Nothing, Wrote, Full, Rang}
use Rattle.provider_post.specs.declared.answer.Room.{Room}
use Rattle.provider_post.specs.declared.answer.Room.TheVariants as room
use Rattle.provider_post.specs.declared.answer.PostAnswer.{PostAnswer}
use Rattle.provider_post.specs.declared.answer.PostAnswer.TheVariants.{All, Refused}

-- a call before its first operation
abbrev pub fresh_call : ℕ → Call
fresh_call count = record { count = count; accepted = 0; refused = None; recorded = false }

-- no more items are to be written: the queue took all, or is full
abbrev pub is_written : Call → Bool
is_written c = (c.accepted == c.count) || is_some c.refused

-- the place in the list of the item that is to be written next, if one is
abbrev pub next_to : Call → Option ℕ
next_to c = if is_written c then None else Some c.accepted

-- what the call's next operation is about: the next item, or the ring
abbrev pub mark_at : Bool → WqMark
mark_at false = Post
mark_at true = Ring

abbrev pub mark_of : Call → WqMark
mark_of c = mark_at (is_written c)

-- what an operation tells, by the event that it is
abbrev pub told_of : Option WqEvent → PostStep
told_of None = Nothing
told_of (Some (queue.Wrote words id)) = Wrote
told_of (Some (queue.Full head tail)) = Full head tail
told_of (Some queue.Rang) = Rang
told_of (Some _) = Nothing

-- the same by the poster's answer
abbrev pub told_post : Step (Unit {0}) Posted → PostStep
told_post More = Nothing
told_post (Gave part) = Nothing
told_post (Done posted.Wrote) = Wrote
told_post (Done posted.Rung) = Nothing
told_post (Done (posted.Full head tail)) = Full head tail

-- where all is written, the first operation stores the record
abbrev pub told_at : (is_written is_recorded : Bool) → Step (Unit {0}) Posted → PostStep
told_at false is_recorded answer = told_post answer
told_at true false answer = Rang
told_at true true answer = Nothing

abbrev pub told_by : Call → Step (Unit {0}) Posted → PostStep
told_by c answer = told_at (is_written c) c.recorded answer

-- the call after it
abbrev pub call_after : Call → PostStep → Call
call_after c Nothing = c
call_after c Wrote = record c { accepted = c.accepted + 1 }
call_after c (Full head tail) = record c { refused = Some (room.Full head tail) }
call_after c Rang = record c { recorded = true }

-- The operation between two states of a call was its last one: it stored the register, or the record of a queue that has no register, or it showed the queue full where nothing was written.
abbrev pub is_last : (has_register : Bool) → Call → Call → Bool
is_last has_register c next = c.recorded || (next.recorded && not has_register) || (is_some next.refused && (next.accepted == 0))

abbrev pub left_after : (has_register : Bool) → Call → Call → Option Call
left_after has_register c next = if is_last has_register c next then None else Some next

abbrev pub answer_by : ℕ → Option Room → PostAnswer
answer_by accepted None = All accepted
answer_by accepted (Some why) = Refused accepted why

-- all items were taken, or the first one that was not is named
abbrev pub answer_of : Call → PostAnswer
answer_of c = answer_by c.accepted c.refused

-- the call is done exactly where none is left
abbrev pub answer_with : Option Call → Call → Step (Unit {0}) PostAnswer
answer_with None next = Done (answer_of next)
answer_with (Some c) next = More
