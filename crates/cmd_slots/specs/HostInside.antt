-- How the fields of a slot's host are seen.
use Rattle.std.specs.Prelude.{ℕ, ◌≡◌, ◌<◌, ◌≤◌, ◌^◌, List, take, Option, Some, None}
use Rattle.cmd_bodies.specs.declared.command.Command.{Command}
use Rattle.cmd_slots.specs.declared.host.Phase.{Phase}
use Rattle.cmd_slots.specs.declared.host.Phase.TheVariants as phases
use Rattle.cmd_slots.specs.declared.host.SlotHost.TheInside.{Inside}
use Rattle.cmd_slots.specs.Place.{IsSlot}
use Rattle.cmd_slots.specs.Question.{IsQuestion}
use Rattle.cmd_slots.specs.Host as sides
use Rattle.cmd_slots.specs.Host.{HostStage, Resting}
use Rattle.cmd_slots.specs.HostView.{HostView, Asking}

abbrev pub stage_in : Command → List ℕ → List ℕ → Phase → HostStage
stage_in c words output phases.Idle = Resting
stage_in c words output phases.Asking = Resting
stage_in c words output (phases.Filling count) = sides.Filling c words count
stage_in c words output phases.Awaiting = sides.Awaiting c
stage_in c words output (phases.Taking count) = sides.Taking c (take count output)

abbrev pub task_in : Asking → Phase → Option Asking
task_in task phases.Idle = None
task_in task _ = Some task

abbrev pub host_view : Inside → HostView
host_view a = record {
  slot = a.slot;
  side = record { asked = a.asked; stage = stage_in a.command (take a.long a.words) a.output a.phase };
  task = task_in (record { command = a.command; words = take a.long a.words }) a.phase;
  seen = a.seen;
}

-- a command that is to be rung for
pub record IsStored (slot asked long : ℕ) (c : Command) (words : List ℕ) : Type 0 where
  pub few : long ≤ 296
  pub low : asked < 2 ^ 62
  pub question : IsQuestion slot c (take long words)

abbrev pub IsAtWork : ℕ → ℕ → ℕ → Command → List ℕ → Phase → Type 0
IsAtWork slot asked long c words phases.Idle = Unit {0}
IsAtWork slot asked long c words phases.Asking = IsStored slot asked long c words
IsAtWork slot asked long c words (phases.Filling count) = (count ≤ long) × IsStored slot asked long c words
IsAtWork slot asked long c words phases.Awaiting = 0 < asked
IsAtWork slot asked long c words (phases.Taking count) = count < 90

pub record IsHost (a : Inside) : Type 0 where
  pub slot_ok : IsSlot a.slot
  pub long_few : a.long ≤ 296
  pub work : IsAtWork a.slot a.asked a.long a.command a.words a.phase
