-- What an event queue stands for: the list of its events, of which the front was given.
use Rattle.std.specs.Prelude.{ℕ, ◌≡◌, ◌+◌, ◌<◌, ◌++◌, List, [], ◌∷◌, length, drop, take, slice_get, filter_map, Option, Some, None}
use Rattle.verbs_types.specs.declared.completion.EventRecord.{EventRecord}
use Rattle.bus_core.specs.Follow.{Follows}

pub record EventList : Type 0 where
  -- all events that were written, the oldest first, which has the index 0
  pub written : List EventRecord
  -- the index of the event that is given next: those before it were given
  pub given : ℕ
  -- one past the index of the event that was taken last, at first 0
  pub taken : ℕ

abbrev pub no_events : EventList
no_events = record { written = []; given = 0; taken = 0 }

-- the events from an index on, the oldest first
abbrev pub since : EventList → ℕ → List EventRecord
since q index = drop index q.written

-- the events that were not given
abbrev pub untaken : EventList → List EventRecord
untaken q = since q q.given

-- the event of this index, if it is written
abbrev pub IsWritten : EventList → ℕ → EventRecord → Type 0
IsWritten q index event = slice_get q.written index ≡ Some event

-- what a marked operation says
pub data EqEvent : Type 0 where
  Written : (index : ℕ) (event : EventRecord) → EqEvent
  Took : (index : ℕ) (event : EventRecord) → EqEvent
  NoEvent : (index : ℕ) → EqEvent
  Gave : (index : ℕ) (event : EventRecord) → EqEvent

pub record MayWrite (size : ℕ) (q : EventList) (index : ℕ) : Type 0 where
  pub index_is : index ≡ length q.written
  pub room : length q.written < q.given + size

-- Events are taken in order. One that was taken and not given is taken again where its taking was dropped.
pub record MayTake (q : EventList) (index : ℕ) (event : EventRecord) : Type 0 where
  pub index_is : index ≡ q.given
  pub found : IsWritten q index event

pub record MayFindNone (q : EventList) (index : ℕ) : Type 0 where
  pub index_is : index ≡ q.given
  pub none : untaken q ≡ []

-- an event is given once it was taken
pub record MayGive (q : EventList) (index : ℕ) (event : EventRecord) : Type 0 where
  pub index_is : index ≡ q.given
  pub taken : q.taken ≡ index + 1
  pub found : IsWritten q index event

-- the step relation: when an event may happen in a queue of this size, and what it makes
abbrev pub MayHappen : ℕ → EventList → EqEvent → Type 0
MayHappen size q (Written index event) = MayWrite size q index
MayHappen size q (Took index event) = MayTake q index event
MayHappen size q (NoEvent index) = MayFindNone q index
MayHappen size q (Gave index event) = MayGive q index event

abbrev pub after_event : EventList → EqEvent → EventList
after_event q (Written index event) = record q { written = q.written ++ event ∷ [] }
after_event q (Took index event) = record q { taken = index + 1 }
after_event q (NoEvent index) = q
after_event q (Gave index event) = record q { given = index + 1 }

abbrev pub IsLegal : ℕ → EventList → List EqEvent → Type 0
IsLegal size q events = Follows (MayHappen size) after_event q events

abbrev pub written_by : EqEvent → Option EventRecord
written_by (Written index event) = Some event
written_by _ = None

abbrev pub given_by : EqEvent → Option EventRecord
given_by (Gave index event) = Some event
given_by _ = None

-- what a history writes and what it gives, in order
abbrev pub all_written : List EqEvent → List EventRecord
all_written events = filter_map written_by events

abbrev pub all_given : List EqEvent → List EventRecord
all_given events = filter_map given_by events

-- In every legal history of a queue of this size, what is given is what was written, in order, each event once. An event is written at the next index, and while fewer than the size are not given. What is taken is the first event that was not given, and none is found only where all that were written were given. So no wrap loses an event or doubles one.
pub record KeepsEvents (size : ℕ) : Type 0 where
  pub in_order : (events : List EqEvent) → IsLegal size no_events events → all_given events ≡ take (length (all_given events)) (all_written events)
  pub written : (before after : List EqEvent) (index : ℕ) (event : EventRecord) → IsLegal size no_events (before ++ Written index event ∷ after) → (index ≡ length (all_written before)) × (index < length (all_given before) + size)
  pub taken : (before after : List EqEvent) (index : ℕ) (event : EventRecord) → IsLegal size no_events (before ++ Took index event ∷ after) → (index ≡ length (all_given before)) × (slice_get (all_written before) index ≡ Some event)
  pub given : (before after : List EqEvent) (index : ℕ) (event : EventRecord) → IsLegal size no_events (before ++ Gave index event ∷ after) → (index ≡ length (all_given before)) × (slice_get (all_written before) index ≡ Some event)
  pub none : (before after : List EqEvent) (index : ℕ) → IsLegal size no_events (before ++ NoEvent index ∷ after) → all_given before ≡ all_written before
