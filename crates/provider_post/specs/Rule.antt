-- A call to post as an automaton over its own operations, of a send queue and of a receive queue.
use Rattle.std.specs.Prelude.{ℕ, List, take, Option, Some, None, slice_get, option_map}
use Rattle.bus_core.specs.declared.operation.BusEntry.{BusEntry}
use Rattle.bus_core.specs.declared.turn.Note.{Note}
use Rattle.bus_core.specs.declared.turn.Step.{Step}
use Rattle.verbs_types.specs.declared.completion.Queue.{Queue}
use Rattle.verbs_types.specs.declared.request.Item.{Item}
use Rattle.verbs_types.specs.declared.entry.What.{What}
use Rattle.verbs_types.specs.declared.entry.What.TheVariants.{Post, PostFull}
use Rattle.actor_map.specs.Notes.{note_of}
use Rattle.counted_ring.specs.declared.place.WqPlace.{WqPlace}
use Rattle.counted_ring.specs.Place.{is_send}
use Rattle.counted_ring.specs.Queue.{WqEvent}
use Rattle.counted_ring.specs.Poster.{Poster}
use Rattle.counted_ring.specs.PosterView.{MayBring, after_bring, brought}
use Rattle.provider_post.specs.declared.call.Call.{Call}
use Rattle.provider_post.specs.declared.post_step.PostStep.{PostStep}
use Rattle.provider_post.specs.declared.post_step.PostStep.TheVariants.{Nothing, Wrote, Full, Rang}
use Rattle.provider_post.specs.declared.answer.PostAnswer.{PostAnswer}
use Rattle.provider_post.specs.Call.{mark_of, told_of, call_after, left_after, answer_with}
use Rattle.provider_post.specs.Item.{WritesItem}

-- what was posted to the queue, and how far the call is that is under way
pub record PostRule : Type 0 where
  pub poster : Poster
  pub call : Call

-- what an operation says of the queue
abbrev pub post_side_says : WqPlace → PostRule → BusEntry → Option WqEvent
post_side_says place s e = brought place s.poster (mark_of s.call) e

-- the operation is the poster's next one, and what it writes is the item that comes next
pub record MayPostSide (place : WqPlace) (queue : Queue) (items : List Item) (s : PostRule) (e : BusEntry) : Type 0 where
  pub brings : MayBring place s.poster (mark_of s.call) e
  pub writes : WritesItem place queue s.poster.index (slice_get items s.call.accepted) (post_side_says place s e)

-- what was posted after it
abbrev pub post_side_poster : WqPlace → PostRule → BusEntry → Poster
post_side_poster place s e = after_bring place s.poster (mark_of s.call) e

-- how far the call has come with it
abbrev pub next_call : WqPlace → PostRule → BusEntry → Call
next_call place s e = call_after s.call (told_of (post_side_says place s e))

-- the call after it, or none where it was the call's last operation
abbrev pub post_side_call : WqPlace → PostRule → BusEntry → Option Call
post_side_call place s e = left_after (is_send place) s.call (next_call place s e)

abbrev pub after_post_side : WqPlace → PostRule → BusEntry → Option PostRule
after_post_side place s e = option_map (λ c. record { poster = post_side_poster place s e; call = c }) (post_side_call place s e)

abbrev pub post_side_answer : WqPlace → PostRule → BusEntry → Step (Unit {0}) PostAnswer
post_side_answer place s e = answer_with (post_side_call place s e) (next_call place s e)

-- the items that were written are posted at the store of the record, and a queue is told as full at the load that shows it full
abbrev pub entry_told : Queue → List Item → Call → PostStep → Option What
entry_told queue items c Nothing = None
entry_told queue items c Wrote = None
entry_told queue items c (Full head tail) = Some (PostFull queue c.accepted head tail)
entry_told queue items c Rang = Some (Post queue (take c.accepted items))

-- the history entry that the operation makes
abbrev pub post_side_entry : WqPlace → Queue → List Item → PostRule → BusEntry → Option What
post_side_entry place queue items s e = entry_told queue items s.call (told_of (post_side_says place s e))

-- the tail that was loaded last with it
abbrev pub post_side_sees : WqPlace → PostRule → BusEntry → ℕ
post_side_sees place s e = (post_side_poster place s e).seen

-- the entry's note
abbrev pub post_side_note : WqPlace → Queue → List Item → PostRule → BusEntry → Option Note
post_side_note place queue items s e = option_map (λ what. note_of what (post_side_sees place s e)) (post_side_entry place queue items s e)
