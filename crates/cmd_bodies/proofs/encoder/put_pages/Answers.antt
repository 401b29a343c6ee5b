use Rattle.std.proofs.Common.{◌≡◌, ◌+◌, ◌*◌, arith}
use Rattle.prm_fields.proofs.Parts.{kept_joined}
use Rattle.prm_fields.proofs.Puts.{keeps_none}
use Rattle.cmd_bodies.proofs.Pages.{words_written}
use Rattle.cmd_bodies.proofs.encoder.put_pages.Goals as goal

pub loop-k-init : goal.loop-k-init
loop-k-init c = record {
  written = λ j low. absurd (omega arith);
  kept = keeps_none c.args.to.now 128 0;
}

pub loop-k-preserved : goal.loop-k-preserved
loop-k-preserved c =
    let k = c.loop-k.k in
    let width : 64 * (k + 1) ≡ 64 * k + 64 = omega arith in
    record {
      written = words_written c.loop-k.to c.put_word.new.bytes c.args.pages.now k c.loop-k.invariant.written c.put_word.ensures.stored c.put_word.ensures.others;
      kept = rw width (kept_joined c.args.to.now c.loop-k.to c.put_word.new.bytes 128 (64 * k) (64 * (2 + k)) 64 (omega arith) c.loop-k.invariant.kept c.put_word.ensures.others);
    }

pub returns-clause-written : goal.returns-clause-written
returns-clause-written c =
    let whole : c.loop-k.k ≡ c.args.count = omega arith in
    record { long = c.told-pages; words = λ k low. c.loop-k.invariant.written k (omega arith) }

pub returns-clause-others : goal.returns-clause-others
returns-clause-others c =
    let whole : c.loop-k.k ≡ c.args.count = omega arith in
    rw (← whole) c.loop-k.invariant.kept
