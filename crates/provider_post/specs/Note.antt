-- The notes of a post, as those of its entries are.
use Rattle.std.specs.Prelude.{ℕ, Option, Some, None}
use Rattle.bus_core.specs.declared.turn.Note.{Note}
use Rattle.actor_map.specs.Numbers.{note_with}
use Rattle.actor_map.specs.declared.note.EntryNumbers.TheVariants.{Post, PostFull}
use Rattle.verbs_types.specs.declared.completion.Queue.{Queue}
use Rattle.provider_post.specs.declared.call.Call.{Call}
use Rattle.provider_post.specs.declared.post_step.PostStep.{PostStep}
use Rattle.provider_post.specs.declared.post_step.PostStep.TheVariants.{Nothing, Wrote, Full, Rang}

-- a post of the items that were written, which saw this tail
abbrev pub post_note : Queue → Call → ℕ → Note
post_note queue c seen = note_with (Post queue c.accepted seen)

-- a queue that is full of `head` items less the tail that was seen
abbrev pub full_note : Queue → Call → ℕ → ℕ → Note
full_note queue c head seen = note_with (PostFull queue c.accepted head seen)

-- the store of the record and the load of a tail that shows the queue full have notes
abbrev pub note_of : Queue → Call → PostStep → ℕ → Option Note
note_of queue c Nothing seen = None
note_of queue c Wrote seen = None
note_of queue c (Full head tail) seen = Some (full_note queue c head seen)
note_of queue c Rang seen = Some (post_note queue c seen)
