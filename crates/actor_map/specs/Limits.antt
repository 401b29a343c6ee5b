-- The limits of a declaration on which the size of its object depends.
use Rattle.std.specs.Prelude.{◌≤◌}
use Rattle.verbs_types.specs.declared.declaration.EqLine.{EqLine}
use Rattle.verbs_types.specs.declared.declaration.CqLine.{CqLine}
use Rattle.verbs_types.specs.declared.declaration.QpLine.{QpLine}

abbrev pub IsEqSize : EqLine → Type 0
IsEqSize l = l.log ≤ 10

abbrev pub IsCqSize : CqLine → Type 0
IsCqSize l = l.ceiling ≤ 12

abbrev pub IsQpSize : QpLine → Type 0
IsQpSize l = (l.send_log ≤ 8) × (l.recv_log ≤ 8)
