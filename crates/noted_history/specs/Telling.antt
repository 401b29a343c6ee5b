-- One entry that a note tells, by the state and by how many calls are behind.
use Rattle.std.specs.Prelude.{ℕ, suc, ◌≡◌, ◌≢◌, List, [], length, slice_index_or}
use Rattle.verbs_types.specs.declared.call.Call.{Call}
use Rattle.verbs_types.specs.declared.entry.Entry.{Entry}
use Rattle.verbs_types.specs.declared.entry.What.{What}
use Rattle.verbs_rules.specs.Answered.{Due, MayAnswer, after_answer}
use Rattle.verbs_rules.specs.Step.{MayStep, after_entry}
use Rattle.verbs_model.specs.Tables.{state_of}
use Rattle.actor_map.specs.Notes.{Told, IsServed}
use Rattle.noted_history.specs.declared.posting.Posting.{Posting}
use Rattle.noted_history.specs.declared.teller.Teller.{Teller}
use Rattle.noted_history.specs.Behind.{IsBehind}
use Rattle.noted_history.specs.declared.log.Noted.{Noted}
use Rattle.noted_history.specs.OfNotes.{noted_of}

-- how many calls of a thread are behind; 0 for a number that is no thread's
abbrev pub behind_of : List Posting → ℕ → ℕ
behind_of postings thread = (slice_index_or postings thread (record { behind = 0 })).behind

-- a thread may owe these entries
abbrev pub MayOwe : List (List Call) → List Posting → ℕ → List Due → Type 0
MayOwe programs postings thread dues = IsBehind (slice_index_or programs thread []) (behind_of postings thread) dues

-- what a thread owes, where this entry answers it
pub record Owes (programs : List (List Call)) (postings : List Posting) (thread : ℕ) (what : What) : Type 0 where
  pub dues : List Due
  pub may_owe : MayOwe programs postings thread dues
  pub answers : MayAnswer dues what

-- The entry has a step for which what was seen serves, the note is the one of both, and its thread owes it.
pub record Tells (t : Teller) (programs : List (List Call)) (n : Noted) (told : Told) : Type 0 where
  pub may : MayStep (state_of t.state) told.entry
  pub serves : IsServed (state_of t.state) told
  pub noted : n ≡ noted_of told
  pub owed : (thread : ℕ) → told.entry.actor ≡ suc thread → Owes programs t.postings.items thread told.entry.what

-- the note tells some entry
pub record CanTell (t : Teller) (programs : List (List Call)) (n : Noted) : Type 0 where
  pub threads : length t.postings.items ≡ length programs
  pub told : Told
  pub tells : Tells t programs n told

-- The entry's thread may owe what the entry leaves, and every other thread what it did.
pub record MovesOn (programs : List (List Call)) (old new : List Posting) (e : Entry) : Type 0 where
  pub threads : length new ≡ length old
  pub own : (thread : ℕ) (dues : List Due) → e.actor ≡ suc thread → MayOwe programs old thread dues → MayAnswer dues e.what → MayOwe programs new thread (after_answer dues e.what)
  pub others : (thread : ℕ) → e.actor ≢ suc thread → behind_of new thread ≡ behind_of old thread

-- what the entry says was told
pub record Says (old new : Teller) (programs : List (List Call)) (e : Entry) (what : What) : Type 0 where
  pub what_is : what ≡ e.what
  pub same_state : new.state ≡ old.state
  pub moves : MovesOn programs old.postings.items new.postings.items e

-- the entry was told
pub record Takes (old new : Teller) (programs : List (List Call)) (e told : Entry) : Type 0 where
  pub told_is : told ≡ e
  pub state_is : state_of new.state ≡ after_entry (state_of old.state) e
  pub moves : MovesOn programs old.postings.items new.postings.items e
