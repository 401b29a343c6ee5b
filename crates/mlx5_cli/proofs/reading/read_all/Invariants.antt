use Rattle.std.proofs.Common.{◌-◌, ◌+◌, ◌≤◌, vec_len}
use Rattle.std.specs.Io.KnownBytes.{Consumes}
use Rattle.mlx5_cli.specs.declared.reading.TheConstants.{TEXT_LIMIT}
use Rattle.mlx5_cli.proofs.reading.read_all.Given as goal

-- the text so far left the source
abbrev pub invariant-loop-piece : goal.invariant-loop-piece
invariant-loop-piece g l =
    let state = g.S.Source.state in
    record {
      within : vec_len l.text ≤ TEXT_LIMIT + 1;
      gives : Consumes (state l.initial.source).left (state l.source).left l.text.items;
      never_falls : (state l.initial.source).faults ≤ (state l.source).faults;
    }

abbrev pub decreases-loop-piece : goal.decreases-loop-piece
decreases-loop-piece g l = TEXT_LIMIT + 1 - vec_len l.text
