use Rattle.std.proofs.Common.{subst, sym}
use Rattle.std.proofs.lemmas.List.{take_all, take_more}
use Rattle.mlx5_dump.specs.Feeding.{Feeds}
use Rattle.mlx5_dump.proofs.Fed.{feeds_nothing}
use Rattle.mlx5_dump.proofs.dump.feed.Goals as goal

pub loop-byte-init : goal.loop-byte-init
loop-byte-init c = λ line keeps. feeds_nothing line _ _ keeps

pub loop-byte-preserved : goal.loop-byte-preserved
loop-byte-preserved c = λ line keeps.
    subst (λ piece. Feeds line piece c.feed_byte.new.kept.items c.args.answers.now.items c.feed_byte.new.answers.items) (sym (take_more c.args.piece.now c.loop-byte.byte-index 0 c.loop-byte-test.true))
    (c.in_ok-feed_byte.ensures line _ c.args.answers.now.items (c.loop-byte.invariant line keeps))

pub returns : goal.returns
returns c = λ line keeps.
    subst (λ piece. Feeds line piece c.loop-byte.kept.items c.args.answers.now.items c.loop-byte.answers.items) (take_all c.loop-byte.byte-index c.args.piece.now c.loop-byte-test.false)
    (c.loop-byte.invariant line keeps)
