-- Where a user's operations are, and that each use says something.
use Rattle.std.proofs.Common.{◌≡◌, true}
use Rattle.std.specs.Prelude.{None}
use Rattle.bus_core.specs.declared.operation.BusEntry.{BusEntry}
use Rattle.mem_cells.specs.Place.{ArenaPlace, touches}
use Rattle.mem_cells.specs.Mark.{CellMark, Read, Write, Foreign, is_use}
use Rattle.mem_cells.specs.User.{User, MayUse, use_says}
use Rattle.mem_cells.proofs.Words.{touches_cell}

pub use_inside : (place : ArenaPlace) (user : User) (mark : CellMark) (e : BusEntry) → MayUse place user mark e → touches place e.addr ≡ true
use_inside place user (Read cell) e may = rw may.load.at_address (touches_cell place cell may.inside)
use_inside place user (Write cell) e may = rw may.swap.at_address (touches_cell place cell may.inside)
use_inside place user Foreign e may = absurd may

pub uses_say : (mark : CellMark) (e : BusEntry) → is_use mark ≡ true → use_says mark e ≡ None → ⊥
uses_say (Read cell) e is none = cc
uses_say (Write cell) e is none = cc
uses_say Foreign e is none = cc
