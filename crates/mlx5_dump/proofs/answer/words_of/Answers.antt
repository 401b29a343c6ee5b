use Rattle.std.proofs.Common.{◌∙◌, arith}
use Rattle.std.proofs.lemmas.List.{length-set}
use Rattle.mlx5_dump.proofs.Entries.{each_set}
use Rattle.mlx5_dump.proofs.answer.words_of.Goals as goal

pub loop-k-preserved : goal.loop-k-preserved
loop-k-preserved g c =
    let so_far = c.loop-k.invariant in
    record {
      long = length-set c.loop-k.words c.loop-k.k c.number_at.result ∙ so_far.long;
      each = each_set c.loop-k.words c.args.bytes.now c.loop-k.k c.number_at.result so_far.each (omega (arith, so_far.long, c.loop-k-test.true)) c.number_at.ensures;
    }
