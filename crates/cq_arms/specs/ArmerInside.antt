-- How the fields of an armer are seen.
use Rattle.std.specs.Prelude.{ℕ, Option, Some, None}
use Rattle.verbs_types.specs.declared.completion.ArmKind.{ArmKind}
use Rattle.cq_arms.specs.declared.armer.Phase.{Phase}
use Rattle.cq_arms.specs.declared.armer.Phase.TheVariants.{Idle, Asking, Recording, Registering}
use Rattle.cq_arms.specs.declared.armer.CqArmer.TheInside.{Inside}
use Rattle.cq_arms.specs.Armer.{Stage, Ready, Numbered, Recorded}
use Rattle.cq_arms.specs.ArmerView.{ArmerView, ArmTask}

abbrev pub stage_in : Phase → Stage
stage_in Idle = Ready
stage_in Asking = Ready
stage_in (Recording number) = Numbered number
stage_in (Registering arm) = Recorded arm

abbrev pub task_in : Phase → ArmKind → ℕ → Option ArmTask
task_in Idle kind index = None
task_in _ kind index = Some (record { kind = kind; index = index })

abbrev pub armer_view : Inside → ArmerView
armer_view a = record { place = a.place; side = record { last = a.last; stage = stage_in a.phase }; task = task_in a.phase a.kind a.index; seen = a.seen }
