use Rattle.std.proofs.Common.{◌≡◌, ◌*◌, ◌∙◌, sym, ap, arith}
use Rattle.std.proofs.lemmas.List.{take_all}
use Rattle.work_entries.specs.Unit.{units}
use Rattle.work_entries.proofs.InlineSegments.{copied_more, copied_long}
use Rattle.work_entries.proofs.inline.segment_at.Goals as goal

pub loop-i-preserved : goal.loop-i-preserved
loop-i-preserved c =
    let is = c.copy_from_slice.ensures.after ∙ c.unit_at.ensures in
    let before = c.loop-i.invariant in
    record {
      long = copied_long c.args.words.now c.loop-i.segment c.copy_from_slice.new.self c.args.first c.loop-i.i before.long c.loop-i-test.true is;
      copied = copied_more c.args.words.now c.loop-i.segment c.copy_from_slice.new.self c.args.first c.loop-i.i before.long c.loop-i-test.true is before.copied;
    }

pub returns : goal.returns
returns c =
    let all : c.loop-i.i ≡ 4 = omega arith in
    let copied = c.loop-i.invariant.copied in
    sym (take_all (16 * c.loop-i.i) c.loop-i.segment (omega (arith, c.loop-i.invariant.long)))
    ∙ copied
    ∙ ap (units c.args.words.now c.args.first) all
