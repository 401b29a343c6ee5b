-- What ties the words, the users and the arena, and what keeps it.
use Rattle.std.proofs.Common.{◌≡◌, ℕ, ◌<◌, refl, ap, ◌∙◌, true}
use Rattle.bus_core.specs.Trace.{Memory}
use Rattle.mem_cells.specs.Cell.{cell_of}
use Rattle.mem_cells.specs.Place.{ArenaPlace, cell_at, touches}
use Rattle.mem_cells.specs.Arena.{Arena, empty_arena}
use Rattle.mem_cells.specs.User.{User, new_user}
use Rattle.mem_cells.specs.Law.{IsStart}
use Rattle.mem_cells.proofs.Words.{touches_cell}

-- each cell is the one that its word is, and each actor's user has its number and its writes
pub record Tied (place : ArenaPlace) (m : Memory) (users : ℕ → User) (arena : Arena) : Type 0 where
  pub each_cell : (cell : ℕ) → cell < place.cells → cell_of (m (cell_at place cell)) ≡ arena.cells cell
  pub each_user : (actor : ℕ) → users actor ≡ record { writer = actor; writes = arena.writes actor }

-- before the first write
pub start_tied : (place : ArenaPlace) (start : Memory) → IsStart place start → Tied place start new_user empty_arena
start_tied place start zero = record {
  each_cell = λ cell inside. ap cell_of (zero cell inside);
  each_user = λ actor. refl;
}

-- what leaves the arena's words alone keeps it
pub Tied_kept : (place : ArenaPlace) (m m' : Memory) (users : ℕ → User) (arena : Arena) → ((a : ℕ) → touches place a ≡ true → m' a ≡ m a) → Tied place m users arena → Tied place m' users arena
Tied_kept place m m' users arena same t = record {
  each_cell = λ cell inside. ap cell_of (same (cell_at place cell) (touches_cell place cell inside)) ∙ t.each_cell cell inside;
  each_user = t.each_user;
}
