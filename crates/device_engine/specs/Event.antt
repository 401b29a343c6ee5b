-- What a marked operation of the adapter says, and the note of it.
use Rattle.std.specs.Prelude.{ℕ, ◌≡◌, Option, Some, None}
use Rattle.bus_core.specs.declared.turn.Note.{Note}
use Rattle.verbs_types.specs.declared.completion.Completion.{Completion}
use Rattle.verbs_types.specs.declared.completion.Queue.TheVariants.{Send}
use Rattle.verbs_types.specs.declared.entry.What.TheVariants.{Fetch, Publish}
use Rattle.actor_map.specs.Notes.{note_of}
use Rattle.cqe_format.specs.declared.completion.Cqe.{Cqe}
use Rattle.cq_pair.specs.Queue as completions
use Rattle.cq_pair.specs.Queue.{QueueEvent}
use Rattle.counted_ring.specs.Queue.{WqEvent, Took}

pub data AdapterEvent : Type 0 where
  -- the request of this number, from 1, of a queue pair's send queue was taken
  Fetched : (qp number : ℕ) → AdapterEvent
  -- its completion was published at this index of a completion queue
  Published : (cq : ℕ) (completion : Cqe) (number index : ℕ) → AdapterEvent

-- the last load of an entry takes the request
abbrev pub fetch_said : ℕ → ℕ → Option WqEvent → Option AdapterEvent
fetch_said qp number (Some (Took words)) = Some (Fetched qp number)
fetch_said qp number _ = None

-- A publication is said. A queue that was full or has overrun says nothing yet.
abbrev pub publish_said : ℕ → ℕ → Option QueueEvent → Option AdapterEvent
publish_said cq number (Some (completions.Published index completion)) = Some (Published cq completion number index)
publish_said cq number _ = None

-- The note is that of the event, whose operation saw this count of another actor. The note of a publication tells nothing of the completion, so it is that of any.
abbrev pub IsAdapterNote : Option AdapterEvent → ℕ → Option Note → Type 0
IsAdapterNote None seen note = note ≡ None
IsAdapterNote (Some (Fetched qp number)) seen note = note ≡ Some (note_of (Fetch (Send qp) number) seen)
IsAdapterNote (Some (Published cq completion number index)) seen note = (x : Completion) → note ≡ Some (note_of (Publish cq x) seen)
