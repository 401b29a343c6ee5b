use Rattle.std.proofs.Common.{◌<◌, ◌≤◌, ◌∙◌, length, arith}
use Rattle.std.proofs.lemmas.Bool.Decides.{nat_tests}
use Rattle.mlx5_dump.specs.declared.dump.TheConstants.{LINE_ROOM}
use Rattle.mlx5_dump.proofs.Kept.{keeps_full, keeps_more}
use Rattle.mlx5_dump.proofs.dump.keep.Goals as goal

pub returns-then-not-is_full : goal.returns-then-not-is_full
returns-then-not-is_full c = λ line keeps.
    let room : length c.args.kept.now.items < LINE_ROOM = grind (arith, nat_tests, c.is_full.ensures, c.if-not-is_full.true) in
    c.push.ensures.items ∙ keeps_more LINE_ROOM _ line c.args.byte room keeps

pub returns-else-not-is_full : goal.returns-else-not-is_full
returns-else-not-is_full c = λ line keeps.
    let full : LINE_ROOM ≤ length c.args.kept.now.items = grind (arith, nat_tests, c.is_full.ensures, c.if-not-is_full.false) in
    keeps_full LINE_ROOM _ line c.args.byte full keeps
