-- What a note tells: the numbers of an entry, packed and unpacked.
use Rattle.std.specs.Prelude.{ℕ, ◌≡◌, ◌+◌, ◌*◌, ◌/◌, ◌%◌, ◌^◌, ◌<◌, ◌==◌, if◌then◌else◌, length, Option, Some, None}
use Rattle.bus_core.specs.declared.turn.Note.{Note}
use Rattle.verbs_types.specs.declared.completion.Queue.{Queue}
use Rattle.verbs_types.specs.declared.completion.Queue.TheVariants.{Send, Recv, Shared}
use Rattle.verbs_types.specs.declared.entry.What.{What}
use Rattle.verbs_types.specs.declared.entry.What.TheVariants as entry
use Rattle.actor_map.specs.declared.note.EntryNumbers.{EntryNumbers}
use Rattle.actor_map.specs.declared.note.EntryNumbers.TheVariants.{Post, PostFull, Poll, Retire, Ack, Fetch, Publish}
use Rattle.actor_map.specs.declared.note.TheConstants.{POST, POST_FULL, POLL, RETIRE, ACK, FETCH, PUBLISH}

abbrev pub object_of : Queue → ℕ
object_of (Send qp) = qp
object_of (Recv qp) = qp
object_of (Shared srq) = srq

-- the number of a work queue in a note, which tells the queue
abbrev pub queue_number : Queue → ℕ
queue_number (Send qp) = 4 * qp
queue_number (Recv qp) = 4 * qp + 1
queue_number (Shared srq) = 4 * srq + 2

abbrev pub queue_at : (kind object : ℕ) → Queue
queue_at kind object = if kind == 0 then Send object else if kind == 1 then Recv object else Shared object

abbrev pub queue_of : ℕ → Queue
queue_of number = queue_at (number % 4) (number / 4)

-- the number of a work queue's object has 24 bits
abbrev pub HasRoom : EntryNumbers → Type 0
HasRoom (Post queue count seen) = object_of queue < 2 ^ 24
HasRoom (PostFull queue pending head tail) = object_of queue < 2 ^ 24
HasRoom (Poll cq most taken seen) = Unit {0}
HasRoom (Retire queue count) = object_of queue < 2 ^ 24
HasRoom (Ack cq index) = Unit {0}
HasRoom (Fetch queue number seen) = object_of queue < 2 ^ 24
HasRoom (Publish cq seen) = Unit {0}

-- the note of these numbers
abbrev pub note_with : EntryNumbers → Note
note_with (Post queue count seen) = record { kind = POST; object = queue_number queue; a = count; b = seen; c = 0; d = 0 }
note_with (PostFull queue pending head tail) = record { kind = POST_FULL; object = queue_number queue; a = pending; b = head; c = tail; d = 0 }
note_with (Poll cq most taken seen) = record { kind = POLL; object = cq; a = most; b = taken; c = seen; d = 0 }
note_with (Retire queue count) = record { kind = RETIRE; object = queue_number queue; a = count; b = 0; c = 0; d = 0 }
note_with (Ack cq index) = record { kind = ACK; object = cq; a = index; b = 0; c = 0; d = 0 }
note_with (Fetch queue number seen) = record { kind = FETCH; object = queue_number queue; a = number; b = seen; c = 0; d = 0 }
note_with (Publish cq seen) = record { kind = PUBLISH; object = cq; a = seen; b = 0; c = 0; d = 0 }

-- the numbers that a note tells, if it is one of an entry
abbrev pub numbers_in : Note → Option EntryNumbers
numbers_in n =
    if n.kind == POST then Some (Post (queue_of n.object) n.a n.b)
    else if n.kind == POST_FULL then Some (PostFull (queue_of n.object) n.a n.b n.c)
    else if n.kind == POLL then Some (Poll n.object n.a n.b n.c)
    else if n.kind == RETIRE then Some (Retire (queue_of n.object) n.a)
    else if n.kind == ACK then Some (Ack n.object n.a)
    else if n.kind == FETCH then Some (Fetch (queue_of n.object) n.a n.b)
    else if n.kind == PUBLISH then Some (Publish n.object n.a)
    else None

-- The numbers of an entry whose maker saw this count of another actor; a retirement and an acknowledgement have none. An entry that is not built has no numbers.
abbrev pub numbers_of : What → ℕ → Option EntryNumbers
numbers_of (entry.Post queue items) seen = Some (Post queue (length items) seen)
numbers_of (entry.PostFull queue pending head tail) seen = Some (PostFull queue pending head seen)
numbers_of (entry.Poll cq most completions) seen = Some (Poll cq most (length completions) seen)
numbers_of (entry.Retire queue count) seen = Some (Retire queue count)
numbers_of (entry.Ack cq index) seen = Some (Ack cq index)
numbers_of (entry.Fetch queue number) seen = Some (Fetch queue number seen)
numbers_of (entry.Publish cq completion) seen = Some (Publish cq seen)
numbers_of _ seen = None

-- the note of an entry that is not built
abbrev pub no_note : Note
no_note = record { kind = 0; object = 0; a = 0; b = 0; c = 0; d = 0 }

abbrev pub note_or_none : Option EntryNumbers → Note
note_or_none None = no_note
note_or_none (Some numbers) = note_with numbers

-- what is packed is unpacked again
pub record AreToldBack : Type 0 where
  pub numbers : (n : EntryNumbers) → numbers_in (note_with n) ≡ Some n
  pub none : numbers_in no_note ≡ None
