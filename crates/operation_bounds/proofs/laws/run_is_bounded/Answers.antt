use Rattle.actor_rules.proofs.Phases.{each_keeps}
use Rattle.operation_bounds.proofs.laws.run_is_bounded.Goals as goal

pub returns : goal.returns
returns c d programs bounds phases ready run = record {
  threads = λ t. c.calls_end.ensures d programs bounds t _ ready (each_keeps d programs phases run _);
  adapter = c.adapter_goes_on.ensures d programs _ (each_keeps d programs phases run 0);
}
