use Rattle.std.proofs.Common.{◌≢◌, [], ◌∷◌, sym, subst}
use Rattle.mlx5_dump.specs.Lines.{AreAnswers, and_last}
use Rattle.mlx5_dump.proofs.Progress.{last_line, length_zero, one_answer}
use Rattle.mlx5_dump.proofs.dump.answer_last.Goals as goal

pub returns-in-Ok : goal.returns-in-Ok
returns-in-Ok g c = record {
  says = λ line keeps.
      let some : c.args.kept.now ≢ [] = λ none. length_zero c.args.kept.now none (sym c.if-is_empty.ensures) in
      let one = one_answer line c.clear.new.self.items c.answer_line.new.answers.items (c.in-Ok.ensures line keeps) c.clear.ensures.items in
      c.write_answers.ensures.says (and_last [] line) (subst (λ lines. AreAnswers lines c.as_slice.result.now) (sym (last_line c.args.kept.now line keeps some)) (subst (AreAnswers (line ∷ [])) (sym c.as_slice.ensures.value) one));
}
