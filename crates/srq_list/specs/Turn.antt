-- What a turn of any user of a shared receive queue asks of its port, and what it leaves of a task.
use Rattle.std.specs.Prelude.{ℕ, ◌<◌, Option, None}
use Rattle.bus_core.specs.declared.turn.Step.{Step}
use Rattle.bus_core.specs.declared.turn.Step.TheVariants.{More, Gave, Done}
use Rattle.bus_core.specs.Port.{Port, HasRoom}
use Rattle.srq_list.specs.declared.place.SrqPlace.{SrqPlace}

-- a port through which a user of the queue can make its next operation
pub record CanServe {Bus : Type 0} (place : SrqPlace) (port : Port Bus) : Type 0 where
  pub room : HasRoom port.room
  pub words : place.tail < port.words

-- a task ends with its answer
abbrev pub task_after : {T G D : Type 0} → Option T → Step G D → Option T
task_after task More = task
task_after task (Gave part) = task
task_after task (Done answer) = None
