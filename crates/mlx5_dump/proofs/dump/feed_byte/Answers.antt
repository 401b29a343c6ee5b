use Rattle.std.proofs.Common.{◌++◌, ◌∷◌, [], ℕ, List, subst, sym}
use Rattle.mlx5_dump.specs.Feeding.{Feeds, Keeps}
use Rattle.mlx5_dump.proofs.Fed.{feeds_end, feeds_more}
use Rattle.mlx5_dump.proofs.dump.feed_byte.Goals as goal

pub returns-then-byte-ne10 : goal.returns-then-byte-ne10
returns-then-byte-ne10 c = λ line piece old fed. feeds_more line piece c.args.kept.now.items old c.args.answers.now.items c.args.byte _ fed c.if-byte-ne10.true c.keep.ensures

pub returns : goal.returns
returns c = λ line piece old fed.
    let adds = λ (l : List ℕ) (keeps : Keeps c.args.kept.now.items l). c.in_ok-answer_line.ensures l (subst (λ kept. Keeps kept l) (sym c.as_slice.ensures.value) keeps) in
    let ended = feeds_end line piece c.args.kept.now.items old c.args.answers.now.items _ fed adds in
    subst (λ kept. Feeds line (piece ++ c.args.byte ∷ []) kept old c.answer_line.new.answers.items) (sym c.clear.ensures)
    (subst (λ byte. Feeds line (piece ++ byte ∷ []) [] old c.answer_line.new.answers.items) (sym c.if-byte-ne10.false) ended)
