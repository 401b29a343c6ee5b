-- What the steps of an event queue are to a history of verbs, which has a list of untaken events.
use Rattle.std.specs.Prelude.{ℕ, ◌≡◌, ◌+◌, ◌-◌, ◌≤◌, ◌++◌, List, [], ◌∷◌, length, fold, None}
use Rattle.verbs_types.specs.declared.completion.EventRecord.{EventRecord}
use Rattle.eq_pair.specs.Queue.{EventList, EqEvent, Written, Took, NoEvent, Gave, IsWritten, MayHappen, after_event, IsLegal, no_events, written_by, since}

-- A history counts the events from some index on as untaken. It counts an error's event as taken at the load of its last word, and a completion's when the arm sequence number of its queue is raised, which comes after the event was given.
pub record ReadsAsHistory (size : ℕ) (q : EventList) : Type 0 where
  -- an event that is written is appended
  pub written : (index from : ℕ) (event : EventRecord) → MayHappen size q (Written index event) → from ≤ length q.written → since (after_event q (Written index event)) from ≡ since q from ++ event ∷ []
  -- nothing else changes the events from an index on
  pub others : (from : ℕ) (e : EqEvent) → written_by e ≡ None → since (after_event q e) from ≡ since q from
  -- an event that is taken or given is written, and stays so
  pub took : (index : ℕ) (event : EventRecord) → MayHappen size q (Took index event) → IsWritten q index event
  pub gave : (index : ℕ) (event : EventRecord) → MayHappen size q (Gave index event) → IsWritten q index event
  pub stays : (index : ℕ) (event : EventRecord) (e : EqEvent) → IsWritten q index event → IsWritten (after_event q e) index event
  -- it is the first event from its index on
  pub first : (index : ℕ) (event : EventRecord) → IsWritten q index event → since q index ≡ event ∷ since q (index + 1)
  -- where none is found there is none
  pub none : (index : ℕ) → MayHappen size q (NoEvent index) → since q index ≡ []
  -- an index is as many below the next one as there are events from it on
  pub counted : (from : ℕ) → from ≤ length q.written → from ≡ length q.written - length (since q from)

-- the indices of a queue stand in order, within its size
pub record IsOrdered (size : ℕ) (q : EventList) : Type 0 where
  pub given_low : q.given ≤ length q.written
  pub bound : length q.written ≤ q.given + size
  -- at most one event is taken and not given
  pub taken_low : q.given ≤ q.taken
  pub taken_high : q.taken ≤ q.given + 1
  pub taken_written : q.taken ≤ length q.written

-- they do after every legal history
abbrev pub StaysOrdered : ℕ → Type 0
StaysOrdered size = (events : List EqEvent) → IsLegal size no_events events → IsOrdered size (fold after_event no_events events)
