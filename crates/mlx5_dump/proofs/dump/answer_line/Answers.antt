use Rattle.std.proofs.Common.{ℕ, List}
use Rattle.mlx5_dump.specs.Feeding.{AddsLine, Keeps}
use Rattle.mlx5_dump.proofs.Kept.{adds_line, on_ok_grown}
use Rattle.mlx5_dump.proofs.dump.answer_line.Goals as goal

pub returns : goal.returns
returns c =
    on_ok_grown (λ new. (line : List ℕ) → Keeps c.args.kept.now line → AddsLine line c.args.answers.now.items new) c.extend_from_slice.result _ _ _ c.extend_from_slice.ensures.items
    (λ line keeps. adds_line c.args.kept.now line _ _ keeps c.in_ok-put_line_answer.ensures)
