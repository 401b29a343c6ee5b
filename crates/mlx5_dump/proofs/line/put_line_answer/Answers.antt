use Rattle.std.proofs.Common.{inr, codes, refl}
use Rattle.mlx5_dump.specs.Line.{AddsAnswer}
use Rattle.mlx5_dump.proofs.Kept.{on_ok_grown}
use Rattle.mlx5_dump.proofs.line.put_line_answer.Goals as goal

pub returns-in-None : goal.returns-in-None
returns-in-None c =
    on_ok_grown (AddsAnswer c.args.line.now c.args.text.now.items) c.extend_from_slice.result _ _ _ c.extend_from_slice.ensures.items
    (record { answer = codes "malformed"; answered = inr (record { no_dump = c.in-None.ensures.none; answered = refl }); grown = refl })
