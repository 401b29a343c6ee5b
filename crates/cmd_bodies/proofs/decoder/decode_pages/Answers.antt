use Rattle.std.proofs.Common.{◌≡◌, ◌<◌, ◌∙◌, refl, sym, ap, length, arith}
use Rattle.std.proofs.Math.ListN.{length-set}
use Rattle.prm_fields.proofs.Chains.{zeros_read}
use Rattle.cmd_bodies.proofs.Words.{word_at-none, words_more, words_all}
use Rattle.cmd_bodies.specs.Command.{words_from}
use Rattle.cmd_bodies.proofs.decoder.decode_pages.Goals as goal

pub loop-k-init : goal.loop-k-init
loop-k-init c = record {
  long = refl;
  read = λ j. zeros_read 88 j ∙ sym (word_at-none c.args.parameters.now j);
}

pub loop-k-preserved : goal.loop-k-preserved
loop-k-preserved c =
    let inside : c.loop-k.k < length c.loop-k.pages = omega (arith, c.loop-k.invariant.long) in
    record {
      long = length-set c.loop-k.pages c.loop-k.k c.word.result ∙ c.loop-k.invariant.long;
      read = words_more c.args.parameters.now c.loop-k.pages c.loop-k.k c.word.result inside c.word.ensures c.loop-k.invariant.read;
    }

pub returns : goal.returns
returns c =
    let whole : c.loop-k.k ≡ c.args.count = omega arith in
    words_all c.args.parameters.now c.loop-k.pages c.loop-k.k c.loop-k.invariant.long c.loop-k.invariant.read
    ∙ ap (λ n. words_from c.args.parameters.now n 0 88) whole
