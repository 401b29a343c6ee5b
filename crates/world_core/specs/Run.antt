-- The actors of a run over the words that they share, and what one turn makes of them.
use Rattle.std.specs.Prelude.{ℕ, zero, suc, ◌≡◌, ◌-◌, ◌<◌, ◌≤◌, ◌^◌, ◌++◌, ◌⊎◌, true, false, Bool, List, [], ◌∷◌, length, Option, Some, slice_get, slice_set}
use Rattle.bus_core.specs.declared.operation.BusEntry.{BusEntry}
use Rattle.bus_core.specs.declared.turn.Note.{Note}
use Rattle.bus_core.specs.Plain.{Plain}
use Rattle.actor_map.specs.Sizes.{words_of}
use Rattle.device_engine.specs.Counts.{CountsBelow}
use Rattle.device_engine.specs.Turn.{AdapterTurn}
use Rattle.device_engine.specs.View.{ScanView, rule_of}
use Rattle.thread_actor.specs.Small.{IsSmall}
use Rattle.thread_actor.specs.Turn.{ThreadTurn}
use Rattle.thread_actor.specs.View.{ThreadView}
use Rattle.noted_history.specs.declared.log.Noted.{Noted}
use Rattle.world_core.specs.Log.{with_turn, with_mark, with_note}

pub record RunView : Type 0 where
  pub bus : Plain
  pub adapter : ScanView
  -- thread 1 is the first
  pub threads : List ThreadView
  -- the actor of each turn, which operations stand for an entry, the notes of those, and for how many turns there is room
  pub turns : List ℕ
  pub marks : List Bool
  pub notes : List Noted
  pub capacity : ℕ

-- What a turn asks

-- the counts of an actor leave room, and its words are on the bus
pub record AdapterCan (v : RunView) : Type 0 where
  pub small : CountsBelow (2 ^ 61) (rule_of v.adapter)
  pub words : words_of v.adapter.declared ≤ length v.bus.start

pub record ThreadCan (v : RunView) (thread : ThreadView) : Type 0 where
  pub small : IsSmall thread
  pub words : words_of thread.lines ≤ length v.bus.start

pub record CanTurn (v : RunView) (actor : ℕ) : Type 0 where
  pub actor_is : actor ≤ length v.threads
  pub few : length v.threads ≤ 16
  pub room : 0 < v.bus.room
  pub turns : length v.turns < v.capacity
  pub adapter : AdapterCan v
  pub threads : (t : ℕ) (thread : ThreadView) → slice_get v.threads t ≡ Some thread → ThreadCan v thread

-- the thread at a place has not ended
abbrev pub IsGoing : List ThreadView → ℕ → Type 0
IsGoing threads place = (thread : ThreadView) → slice_get threads place ≡ Some thread → thread.ended ≡ false

-- the thread at a place can make its next operation
pub record CanOperate (threads : List ThreadView) (place : ℕ) (bus : Plain) : Type 0 where
  pub within : place < length threads
  pub going : IsGoing threads place
  pub room : 0 < bus.room
  pub small : (thread : ThreadView) → slice_get threads place ≡ Some thread → IsSmall thread
  pub words : (thread : ThreadView) → slice_get threads place ≡ Some thread → words_of thread.lines ≤ length bus.start

-- What a turn makes

-- one more operation of this actor on the bus
abbrev pub with_operation : Plain → ℕ → BusEntry → Plain
with_operation bus actor e = record { actor = actor; start = bus.start; trace = bus.trace ++ e ∷ []; room = bus.room - 1 }

-- the adapter makes its next operation
pub record AdapterMoves (old new : RunView) : Type 0 where
  pub entry : BusEntry
  pub note : Option Note
  pub by : entry.actor ≡ 0
  pub turn : AdapterTurn old.adapter new.adapter entry note
  pub bus : new.bus ≡ with_operation old.bus 0 entry
  pub turns : new.turns ≡ with_turn old.turns 0
  pub marks : new.marks ≡ with_mark old.marks note
  pub notes : new.notes ≡ with_note old.notes 0 note
  pub threads : new.threads ≡ old.threads
  pub capacity : new.capacity ≡ old.capacity

-- the thread at a place made its next operation, and the others are as before
pub record Operates (old new : List ThreadView) (place : ℕ) (before after : Plain) (note : Option Note) : Type 0 where
  pub was : ThreadView
  pub now : ThreadView
  pub found : slice_get old place ≡ Some was
  pub threads : new ≡ slice_set old place now
  pub entry : BusEntry
  pub by : entry.actor ≡ before.actor
  pub turn : ThreadTurn was now entry note
  pub bus : after ≡ with_operation before before.actor entry

-- a thread makes its next operation
pub record ThreadMoves (old new : RunView) (t : ℕ) : Type 0 where
  pub before : ThreadView
  pub after : ThreadView
  pub found : slice_get old.threads t ≡ Some before
  pub going : before.ended ≡ false
  pub entry : BusEntry
  pub note : Option Note
  pub by : entry.actor ≡ suc t
  pub turn : ThreadTurn before after entry note
  pub bus : new.bus ≡ with_operation old.bus (suc t) entry
  pub turns : new.turns ≡ with_turn old.turns (suc t)
  pub marks : new.marks ≡ with_mark old.marks note
  pub notes : new.notes ≡ with_note old.notes (suc t) note
  pub threads : new.threads ≡ slice_set old.threads t after
  pub adapter : new.adapter ≡ old.adapter
  pub capacity : new.capacity ≡ old.capacity

-- a thread has ended, and makes none
pub record ThreadRests (old new : RunView) (t : ℕ) : Type 0 where
  pub thread : ThreadView
  pub found : slice_get old.threads t ≡ Some thread
  pub ended : thread.ended ≡ true
  pub new_is : new ≡ record old { turns = with_turn old.turns (suc t) }

abbrev pub Turns : RunView → RunView → ℕ → Type 0
Turns old new zero = AdapterMoves old new
Turns old new (suc t) = ThreadMoves old new t ⊎ ThreadRests old new t
