use Rattle.std.proofs.Common.{◌≡◌, ◌+◌, ◌*◌, length, take, inl, arith, slice_index_or}
use Rattle.std.proofs.lemmas.List.{take_more, length-take-le}
use Rattle.prm_fields.specs.Spelling.{Spells}
use Rattle.prm_fields.specs.declared.layout.LayoutName.TheVariants.{DataUnit}
use Rattle.work_entries.specs.Unit.{unit}
use Rattle.work_entries.specs.Body.{segment_values}
use Rattle.work_entries.specs.SgeArrayInside.{no_sge}
use Rattle.work_entries.proofs.DataSegments.{segments_more, segments_same}
use Rattle.work_entries.proofs.Words.{unit_kept, words_joined}
use Rattle.work_entries.proofs.segments.put_segments.Goals as goal

pub loop-i-preserved : goal.loop-i-preserved
loop-i-preserved c =
    let i = c.loop-i.i in
    let front = take i c.args.sges.now in
    let count = length-take-le i c.args.sges.now (omega arith) in
    let earlier = segments_same front c.loop-i.words c.put_unit.new.words c.args.first
    (λ j low high. unit_kept c.loop-i.words c.put_unit.new.words (2 * (c.args.first + i)) 2 j c.put_unit.ensures.others (inl (omega (arith, count))))
    c.loop-i.invariant.stored in
    let item = slice_index_or c.args.sges.now i no_sge in
    let next : Spells DataUnit (segment_values item) (unit c.put_unit.new.words (c.args.first + i)) = rw c.put_unit.ensures.stored c.segment_unit.ensures in
    let place : c.args.first + i ≡ c.args.first + length front = omega (arith, count) in
    let more = segments_more front item c.put_unit.new.words c.args.first (c.args.first + i) place earlier next in
    let joined = words_joined c.args.words.now c.loop-i.words c.put_unit.new.words (2 * c.args.first) (2 * i) (2 * (c.args.first + i)) 2 (omega arith) c.loop-i.invariant.others c.put_unit.ensures.others in
    let size : 2 * i + 2 ≡ 2 * (i + 1) = omega arith in
    record {
      stored = rw (take_more c.args.sges.now i no_sge c.loop-i-test.true) more;
      others = rw size at joined;
    }
