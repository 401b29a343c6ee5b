use Rattle.std.proofs.Common.{◌∙◌, sym, arith, length-append, ◌∷◌, []}
use Rattle.work_entries.specs.Receive.{IsReal}
use Rattle.work_entries.proofs.DataSegments.{all_more, segments_more}
use Rattle.work_entries.proofs.Receiving.{real_by_test}
use Rattle.work_entries.proofs.receive.segments_in.Goals as goal

pub loop-k-preserved : goal.loop-k-preserved
loop-k-preserved c =
    let sge = c.segment_in-sge.result in
    let before = c.loop-k.invariant in
    let real = real_by_test sge (sym c.eq.ensures ∙ c.if-eq.false) in
    let spelled = rw c.unit_at.ensures at c.segment_in-sge.ensures in
    rw c.push.ensures (record {
      all = length-append c.loop-k.sges (sge ∷ []) ∙ omega (arith, before.all);
      real = all_more IsReal c.loop-k.sges sge before.real real;
      spelled = segments_more c.loop-k.sges sge c.args.w.now 0 c.loop-k.k (omega (arith, before.all)) before.spelled spelled;
    })
