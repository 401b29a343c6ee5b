-- A run before its first turn.
use Rattle.std.specs.Prelude.{ℕ, suc, ◌≡◌, ◌<◌, ◌≤◌, List, [], length, Some, slice_get, slice_index_or}
use Rattle.bus_core.specs.Plain.{Plain}
use Rattle.verbs_types.specs.declared.call.Call.{Call}
use Rattle.verbs_types.specs.declared.declaration.Lines.{Lines}
use Rattle.actor_map.specs.Sizes.{words_of}
use Rattle.actor_map.specs.Start.{starts}
use Rattle.device_engine.specs.First as device
use Rattle.scenario_text.specs.declared.scenario.ScenarioParts.{ScenarioParts}
use Rattle.scenario_text.specs.Limits.{turn_count}
use Rattle.thread_actor.specs.Fresh as thread
use Rattle.thread_actor.specs.View.{ThreadView}
use Rattle.world_core.specs.Run.{RunView}

-- each program is one that a thread of its number can run
abbrev pub CanStart : Lines → List (List Call) → Type 0
CanStart d programs = (t : ℕ) → t < length programs → thread.CanRun d (suc t) (slice_index_or programs t [])

-- each thread is at the first of its calls
pub record AreFresh (d : Lines) (programs : List (List Call)) (threads : List ThreadView) : Type 0 where
  pub count : length threads ≡ length programs
  pub each : (t : ℕ) (v : ThreadView) → slice_get threads t ≡ Some v → thread.IsFresh d (suc t) (slice_index_or programs t []) v

-- the words with which a run begins, and room for `room` operations
pub record IsFirstBus (d : Lines) (room : ℕ) (bus : Plain) : Type 0 where
  pub start : bus.start ≡ starts d 1
  pub words : length bus.start ≡ words_of d
  pub trace : bus.trace ≡ []
  pub room_is : room ≤ bus.room

pub record IsFirst (s : ScenarioParts) (v : RunView) : Type 0 where
  pub bus : IsFirstBus s.lines (turn_count (length s.lines.threads) s.plan) v.bus
  pub adapter : device.IsFresh s.lines v.adapter
  pub threads : AreFresh s.lines s.programs v.threads
  pub turns : v.turns ≡ []
  pub marks : v.marks ≡ []
  pub notes : v.notes ≡ []
  pub capacity : turn_count (length s.lines.threads) s.plan ≤ v.capacity
