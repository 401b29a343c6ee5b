-- The note of an entry, and when a note fits an entry in a state.
use Rattle.std.specs.Prelude.{ℕ, ◌≡◌, ◌+◌, ◌-◌, ◌*◌, ◌<◌, ◌≤◌, ◌==◌, IsTrue, MatchBool, List, length, map}
use Rattle.bus_core.specs.Follow.{Follows}
use Rattle.bus_core.specs.declared.turn.Note.{Note}
use Rattle.verbs_types.specs.declared.entry.Entry.{Entry}
use Rattle.verbs_types.specs.declared.entry.What.{What}
use Rattle.verbs_types.specs.declared.entry.What.TheVariants.{Post, PostFull, Poll, Retire, Ack, Fetch, Publish}
use Rattle.verbs_rules.specs.Rules.{objects_live}
use Rattle.verbs_rules.specs.State.{Verbs}
use Rattle.verbs_rules.specs.Step.{after_entry}
use Rattle.verbs_rules.specs.OfOne.{WorkQueue, CompletionQueue, queue_in, completions_in}
use Rattle.actor_map.specs.Numbers.{note_or_none, numbers_of}

-- The note of an entry whose maker saw this count of another actor.
abbrev pub note_of : What → ℕ → Note
note_of what seen = note_or_none (numbers_of what seen)

-- Retired requests that were seen leave room for the list: what was seen may be old, since the count only rises.
pub record LeavesRoom (u : WorkQueue) (items seen : ℕ) : Type 0 where
  pub least : seen ≤ u.retired
  pub enough : length u.posted + items - seen ≤ u.room

-- completions that were seen as published are as many as the poll takes
pub record ShowsTaken (c : CompletionQueue) (taken seen : ℕ) : Type 0 where
  pub least : seen ≤ c.produced
  pub enough : c.produced - length c.unpolled + taken ≤ seen

-- requests that were seen as posted are as many as the adapter takes
pub record ShowsPosted (u : WorkQueue) (number seen : ℕ) : Type 0 where
  pub least : seen ≤ length u.posted
  pub enough : number ≤ seen

-- acknowledged completions that were seen leave room for one more
pub record LeavesPlace (c : CompletionQueue) (seen : ℕ) : Type 0 where
  pub least : seen ≤ c.acked
  pub enough : c.produced - seen < c.size

-- The count that was seen serves for the entry. A full queue and a short poll are told only by the very count of the state; for the others a count that other actors have passed meanwhile serves too. None serves for an entry that is not built.
abbrev pub Serves : Verbs → What → ℕ → Type 0
Serves v (Post queue items) seen = LeavesRoom (queue_in v queue) (length items) seen
Serves v (PostFull queue pending head tail) seen = seen ≡ (v.settled queue).retired
Serves v (Poll cq most completions) seen = MatchBool (length completions == most) (ShowsTaken (completions_in v cq) (length completions) seen) (seen ≡ (v.device.produced cq))
Serves v (Retire queue count) seen = Unit {0}
Serves v (Ack cq index) seen = Unit {0}
Serves v (Fetch queue number) seen = ShowsPosted (queue_in v queue) number seen
Serves v (Publish cq completion) seen = LeavesPlace (completions_in v cq) seen
Serves v _ seen = ⊥

-- an entry that was told, and the count of another actor that its maker saw
pub record Told : Type 0 where
  pub entry : Entry
  pub seen : ℕ

abbrev pub with_seen : ℕ → Entry → Told
with_seen seen e = record { entry = e; seen = seen }

abbrev pub entries_of : List Told → List Entry
entries_of told = map (λ (t : Told). t.entry) told

abbrev pub note_told : Told → Note
note_told t = note_of t.entry.what t.seen

abbrev pub IsServed : Verbs → Told → Type 0
IsServed v t = Serves v t.entry.what t.seen

-- what was seen for each of these serves for it, from this state on
abbrev pub AllServe : Verbs → List Told → Type 0
AllServe v told = Follows IsServed (λ (u : Verbs) (t : Told). after_entry u t.entry) v told

-- The note is one of the entry, whose objects live, and what it says to have seen serves.
pub record FitsWith (v : Verbs) (note : Note) (e : Entry) (seen : ℕ) : Type 0 where
  pub live : IsTrue (objects_live v e.what)
  pub note_is : note ≡ note_of e.what seen
  pub serves : Serves v e.what seen

abbrev pub Fits : Verbs → Note → Entry → Type 0
Fits v note e = (seen : ℕ) × FitsWith v note e seen
