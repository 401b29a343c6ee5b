-- What a turn of a thread is.
use Rattle.std.specs.Prelude.{ℕ, ◌≡◌, ◌+◌, ◌<◌, Option, option_map}
use Rattle.bus_core.specs.declared.operation.BusEntry.{BusEntry}
use Rattle.bus_core.specs.declared.turn.Note.{Note}
use Rattle.bus_core.specs.Mark.{Marked}
use Rattle.verbs_types.specs.declared.entry.What.{What}
use Rattle.actor_map.specs.Notes.{note_of}
use Rattle.actor_map.specs.Sizes.{words_of}
use Rattle.object_places.specs.Objects.{Mark}
use Rattle.actor_rules.specs.Calls.{MayThread, after_thread, thread_says, thread_sees}
use Rattle.thread_actor.specs.View.{ThreadView, thread_of}
use Rattle.thread_actor.specs.Small.{IsBelow}

abbrev pub marked : BusEntry → Mark → Marked Mark
marked e mark = record { entry = e; mark = mark }

-- a note with the numbers of the entry, and with what its maker saw
abbrev pub IsNoteOf : Option What → ℕ → Option Note → Type 0
IsNoteOf said seen note = note ≡ option_map (λ what. note_of what seen) said

-- the same thread, with the same calls
pub record IsSameThread (old new : ThreadView) : Type 0 where
  pub lines : new.lines ≡ old.lines
  pub number : new.number ≡ old.number
  pub program : new.program ≡ old.program

-- One operation of the rule of threads, with this mark: what the thread is after it is the rule's, and the note is that of what the operation says.
pub record ThreadTurn (old new : ThreadView) (e : BusEntry) (note : Option Note) : Type 0 where
  pub mark : Mark
  pub may : MayThread old.lines (thread_of old) old.number (marked e mark)
  pub goes : thread_of new ≡ after_thread old.lines (thread_of old) (marked e mark)
  pub noted : IsNoteOf (thread_says old.lines (thread_of old) (marked e mark)) (thread_sees old.lines (thread_of old) (marked e mark)) note
  pub inside : e.addr < words_of old.lines
  pub same : IsSameThread old new
  -- counts and indices rise by no more than 64
  pub rises : (most : ℕ) → IsBelow most (thread_of old) → IsBelow (most + 64) (thread_of new)
