use Rattle.std.proofs.Common.{◌≡◌, ◌+◌, ◌*◌, arith}
use Rattle.work_entries.proofs.Words.{words_joined}
use Rattle.work_entries.proofs.InlineSegments.{put_more}
use Rattle.work_entries.proofs.inline.put_units.Goals as goal

pub loop-i-preserved : goal.loop-i-preserved
loop-i-preserved c =
    let i = c.loop-i.i in
    let before = c.loop-i.invariant in
    let joined = words_joined c.args.words.now c.loop-i.words c.put_unit.new.words (2 * c.args.first) (2 * i) (2 * (c.args.first + i)) 2 (omega arith) before.others c.put_unit.ensures.others in
    let size : 2 * i + 2 ≡ 2 * (i + 1) = omega arith in
    record {
      stored = put_more c.loop-i.words c.put_unit.new.words c.args.segment.now c.copy_from_slice.new.self c.args.first i c.put_unit.ensures.others c.put_unit.ensures.stored c.copy_from_slice.ensures.after before.stored;
      others = rw size at joined;
    }
