-- How the fields of a `CellUser` are seen.
use Rattle.mem_cells.specs.declared.user.CellUser.TheInside.{Inside}
use Rattle.mem_cells.specs.User.{User}

abbrev pub user_view : Inside → User
user_view a = record { writer = a.writer; writes = a.writes }
