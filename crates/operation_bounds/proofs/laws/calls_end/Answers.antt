use Rattle.actor_rules.specs.Holding.{IsMapped}
use Rattle.operation_bounds.proofs.CallsEnd as calls
use Rattle.operation_bounds.proofs.DrainsLook.{drains_look}
use Rattle.operation_bounds.proofs.DrainsTake.{drains_take}
use Rattle.operation_bounds.proofs.Steps.{stands_first}
use Rattle.operation_bounds.proofs.laws.calls_end.Goals as goal

pub returns : goal.returns
returns c d programs bounds t ops ready keeps =
    let map_ok : IsMapped d = record { declared = ready.declared; placed = c.places.ensures; apart = c.apart.ensures } in
    let first = stands_first d programs bounds t ready in record {
      calls_end = calls.calls_end d programs _ map_ok ops first keeps;
      drains_look = drains_look d programs _ map_ok ops first keeps;
      drains_take = drains_take d programs _ map_ok ops first keeps;
    }
