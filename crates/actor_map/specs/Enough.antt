-- What a note that fits its entry says of the state: a count of another actor that its maker saw earlier decides as the present one does.
use Rattle.std.specs.Prelude.{ℕ, ◌≡◌, ◌+◌, ◌-◌, ◌<◌, ◌≤◌, List, length}
use Rattle.bus_core.specs.declared.turn.Note.{Note}
use Rattle.verbs_types.specs.declared.request.Item.{Item}
use Rattle.verbs_types.specs.declared.completion.Queue.{Queue}
use Rattle.verbs_types.specs.declared.completion.Completion.{Completion}
use Rattle.verbs_types.specs.declared.entry.Entry.{Entry}
use Rattle.verbs_types.specs.declared.entry.What.{What}
use Rattle.verbs_types.specs.declared.entry.What.TheVariants.{Post, PostFull, Fetch, Publish}
use Rattle.verbs_rules.specs.State.{Verbs}
use Rattle.actor_map.specs.Notes.{Fits}

abbrev pub made_by : ℕ → What → Entry
made_by actor what = record { actor = actor; what = what }

pub record IsEnough (v : Verbs) (note : Note) (actor : ℕ) : Type 0 where
  -- the queue has room for the list
  pub post : (queue : Queue) (items : List Item) → Fits v note (made_by actor (Post queue items)) → length (v.posted queue) + length items - (v.settled queue).retired ≤ (v.limits.room queue)
  -- the tail that was seen is that of the state
  pub full : (queue : Queue) (pending head tail : ℕ) → Fits v note (made_by actor (PostFull queue pending head tail)) → note.c ≡ (v.settled queue).retired
  -- the request was posted
  pub fetch : (queue : Queue) (number : ℕ) → Fits v note (made_by actor (Fetch queue number)) → number ≤ length (v.posted queue)
  -- the completion queue has room for one more
  pub publish : (cq : ℕ) (completion : Completion) → Fits v note (made_by actor (Publish cq completion)) → (v.device.produced cq) - (v.acked cq) < (v.limits.size cq)

-- for every state, note and actor
abbrev pub AreEnough : Type 0
AreEnough = (v : Verbs) (note : Note) (actor : ℕ) → IsEnough v note actor
