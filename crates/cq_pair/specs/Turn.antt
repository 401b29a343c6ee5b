-- What a turn leaves of a task.
use Rattle.std.specs.Prelude.{Option, None}
use Rattle.bus_core.specs.declared.turn.Step.{Step}
use Rattle.bus_core.specs.declared.turn.Step.TheVariants.{More, Gave, Done}

-- a task ends with its answer
abbrev pub task_after : {T G D : Type 0} → Option T → Step G D → Option T
task_after task More = task
task_after task (Gave part) = task
task_after task (Done answer) = None
