use Rattle.std.proofs.Common.{◌++◌, sym, subst, ap, ◌∙◌}
use Rattle.mlx5_dump.specs.Feeding.{ended}
use Rattle.mlx5_dump.specs.Lines.{AreAnswers}
use Rattle.mlx5_dump.proofs.Kept.{on_ok_given}
use Rattle.mlx5_dump.proofs.dump.answer_piece.Goals as goal

pub returns-in-Ok-clause-says : goal.returns-in-Ok-clause-says
returns-in-Ok-clause-says g c = λ line keeps.
    let fed = c.in-Ok.ensures line keeps in
    let all = c.as_slice.ensures.value ∙ fed.grown ∙ ap (λ l. l ++ fed.answers) c.clear.ensures.items in
    c.write_answers.ensures.says (ended line c.args.piece.now) (subst (AreAnswers (ended line c.args.piece.now)) (sym all) fed.answered)

pub returns-in-Ok-clause-keeps : goal.returns-in-Ok-clause-keeps
returns-in-Ok-clause-keeps g c = on_ok_given _ c.write_answers.result (λ line keeps. (c.in-Ok.ensures line keeps).keeps)
