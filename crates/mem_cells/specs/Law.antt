-- An arena as an object with a user for each actor number, and the traces that the law speaks of.
use Rattle.std.specs.Prelude.{ℕ, ◌≡◌, ◌<◌, ◌==◌, ◌&&◌, List, filter, Bool, true, false, Option, Some, None, if◌then◌else◌}
use Rattle.std.specs.List.{AllByRecursion, filter_map}
use Rattle.bus_core.specs.declared.operation.BusOp.TheVariants.{Load}
use Rattle.bus_core.specs.Follow.{Follows}
use Rattle.bus_core.specs.Mark.{Marked, entries}
use Rattle.bus_core.specs.Trace.{Memory, IsConsistent}
use Rattle.mem_cells.specs.Place.{ArenaPlace, cell_at, touches}
use Rattle.mem_cells.specs.Arena.{CellEvent}
use Rattle.mem_cells.specs.Mark.{CellMark, is_use}
use Rattle.mem_cells.specs.User.{User, new_user, MayUse, after_use, use_says}

-- the user whose operation it is: the actor's, where it is on the arena's words and made for that
abbrev pub user_of : ArenaPlace → Marked CellMark → Option ℕ
user_of place x = if touches place x.entry.addr && is_use x.mark then Some x.entry.actor else None

abbrev pub is_of : ℕ → Option ℕ → Bool
is_of actor None = false
is_of actor (Some user) = user == actor

-- the operations of one user, in order
abbrev pub of_user : ArenaPlace → ℕ → List (Marked CellMark) → List (Marked CellMark)
of_user place actor trace = filter (λ x. is_of actor (user_of place x)) trace

-- what is no user's operation writes none of the cells
abbrev pub IsHarmless : ArenaPlace → Marked CellMark → Type 0
IsHarmless place x = touches place x.entry.addr ≡ true → is_use x.mark ≡ false → x.entry.op ≡ Load

-- before the first write all cells are 0
abbrev pub IsStart : ArenaPlace → Memory → Type 0
IsStart place start = (cell : ℕ) → cell < place.cells → start (cell_at place cell) ≡ 0

-- A consistent trace of an arena in which each actor keeps the rule of its user, over its own operations, while nobody else writes the cells.
pub record IsRun (place : ArenaPlace) (start : Memory) (trace : List (Marked CellMark)) : Type 0 where
  pub start_ok : IsStart place start
  pub consistent : IsConsistent start (entries trace)
  pub users : (actor : ℕ) → Follows (λ (user : User) (x : Marked CellMark). MayUse place user x.mark x.entry) (λ (user : User) (x : Marked CellMark). after_use user x.mark) (new_user actor) (of_user place actor trace)
  pub others : AllByRecursion (IsHarmless place) trace

abbrev pub says : ArenaPlace → Marked CellMark → Option CellEvent
says place x = if touches place x.entry.addr then use_says x.mark x.entry else None

-- what the users' operations say, in the trace's order
abbrev pub history : ArenaPlace → List (Marked CellMark) → List CellEvent
history place trace = filter_map (says place) trace
