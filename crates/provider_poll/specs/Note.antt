-- The notes of a poll, as those of its entries are.
use Rattle.std.specs.Prelude.{ℕ}
use Rattle.bus_core.specs.declared.turn.Note.{Note}
use Rattle.verbs_types.specs.declared.completion.Queue.TheVariants.{Send}
use Rattle.verbs_types.specs.declared.entry.What.TheVariants.{Retire, Ack}
use Rattle.actor_map.specs.Notes.{note_of}
use Rattle.actor_map.specs.Numbers.{note_with}
use Rattle.actor_map.specs.declared.note.EntryNumbers.TheVariants.{Poll}

-- of a poll that asked for `most` completions and took `taken`, and saw the queue as published up to the index `seen`
abbrev pub poll_note : (cq most taken seen : ℕ) → Note
poll_note cq most taken seen = note_with (Poll cq most taken seen)

-- of the store of this tail in the send queue of the queue pair
abbrev pub retire_note : (qp tail : ℕ) → Note
retire_note qp tail = note_of (Retire (Send qp) tail) 0

abbrev pub ack_note : (cq index : ℕ) → Note
ack_note cq index = note_of (Ack cq index) 0
