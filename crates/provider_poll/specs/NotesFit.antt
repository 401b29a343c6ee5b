-- The note of a poll's last load is that of the poll's entry.
use Rattle.std.specs.Prelude.{ℕ, ◌≡◌, List, length}
use Rattle.verbs_types.specs.declared.completion.Completion.{Completion}
use Rattle.verbs_types.specs.declared.entry.What.TheVariants.{Poll}
use Rattle.actor_map.specs.Notes.{note_of}
use Rattle.provider_poll.specs.Note.{poll_note}

abbrev pub NotesFit : Type 0
NotesFit = (cq most seen : ℕ) (completions : List Completion) → poll_note cq most (length completions) seen ≡ note_of (Poll cq most completions) seen
