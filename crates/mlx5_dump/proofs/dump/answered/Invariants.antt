use Rattle.mlx5_dump.proofs.Progress.{Progress}
use Rattle.mlx5_dump.proofs.dump.answered.Given as goal

abbrev pub invariant-loop : goal.invariant-loop
invariant-loop g l =
    let source = g.S.Source.state in
    let sink = g.K.Sink.state in
    Progress (source l.fn.source) (source l.source) (sink l.fn.out) (sink l.out) l.kept.items l.counter
