-- What a turn of any side asks of its port, and what it leaves of a task.
use Rattle.std.specs.Prelude.{ℕ, ◌<◌, Option, Some, None}
use Rattle.bus_core.specs.declared.turn.Step.{Step}
use Rattle.bus_core.specs.declared.turn.Step.TheVariants.{More, Gave, Done}
use Rattle.bus_core.specs.Port.{Port, HasRoom}
use Rattle.cq_arms.specs.declared.place.ArmPlace.{ArmPlace}

-- a port through which a side can make its next operation
pub record CanServe {Bus : Type 0} (place : ArmPlace) (port : Port Bus) : Type 0 where
  pub room : HasRoom port.room
  pub arm_record : place.arm_record < port.words
  pub register : place.arm_reg < port.words
  pub sn : place.sn < port.words

-- what a turn ended with
abbrev pub answered : {D : Type 0} → Step (Unit {0}) D → Option D
answered More = None
answered (Gave part) = None
answered (Done answer) = Some answer

-- a task ends with its answer
abbrev pub task_after : {T D : Type 0} → Option T → Step (Unit {0}) D → Option T
task_after task More = task
task_after task (Gave part) = task
task_after task (Done answer) = None
