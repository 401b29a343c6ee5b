-- How the fields of a freer are seen.
use Rattle.std.specs.Prelude.{ℕ, Option, Some, None}
use Rattle.srq_list.specs.declared.freer.Phase.{Phase}
use Rattle.srq_list.specs.declared.freer.Phase.TheVariants as phases
use Rattle.srq_list.specs.declared.freer.SrqFreer.TheInside.{Inside}
use Rattle.srq_list.specs.Place.{IsPlace}
use Rattle.srq_list.specs.FreerView.{FreerView, FreerTask, Search, Release}

abbrev pub linked_in : Phase → Option ℕ
linked_in (phases.Releasing slot) = Some slot
linked_in _ = None

abbrev pub task_in : Phase → Option FreerTask
task_in phases.Idle = None
task_in (phases.Naming slot) = Some (Search slot)
task_in (phases.Linking slot) = Some (Release slot)
task_in (phases.Releasing slot) = Some (Release slot)

abbrev pub freer_view : Inside → FreerView
freer_view a = record { place = a.place; side = record { tail = a.tail; linked = linked_in a.phase }; task = task_in a.phase }

pub record IsFreer (a : Inside) : Type 0 where
  pub place_ok : IsPlace a.place
