use Rattle.std.proofs.Common.{ℕ, not, ◌∙◌, ap, arith, length-append, ◌∷◌, [], sym}
use Rattle.prm_fields.specs.Spelling.{Spells}
use Rattle.prm_fields.specs.declared.layout.LayoutName.TheVariants.{DataUnit}
use Rattle.work_entries.specs.declared.fault.EntryRule.TheVariants.{Size}
use Rattle.work_entries.specs.Body.{IsShort, begins_inline, segment_values}
use Rattle.work_entries.specs.Unit.{unit}
use Rattle.work_entries.proofs.DataSegments.{all_more, segments_more, short_unit}
use Rattle.work_entries.proofs.Judging.{passed}
use Rattle.work_entries.proofs.segments.segments_at.Goals as goal

pub loop-k-preserved : goal.loop-k-preserved
loop-k-preserved c =
    let sge = c.segment_in.result in
    let k = c.loop-k.k in
    let found = c.loop-k.invariant.found in
    let plain = rw c.unit_at-unit.ensures at (sym c.begins_inline.ensures ∙ c.if-begins_inline.false) in
    let spelled : Spells DataUnit (segment_values sge) (unit c.args.words.now k) = rw c.unit_at-unit.ensures at c.segment_in.ensures in
    record {
      found = rw c.push.ensures (record {
        all = length-append c.loop-k.sges (sge ∷ []) ∙ omega (arith, found.all);
        short = all_more IsShort c.loop-k.sges sge found.short (short_unit (unit c.args.words.now k) sge plain spelled);
        spelled = segments_more c.loop-k.sges sge c.args.words.now c.args.first k (omega (arith, found.all)) found.spelled spelled;
      });
      judged = c.loop-k.invariant.judged ∙ passed Size (λ (j : ℕ). not (begins_inline (unit c.args.words.now j))) k c.args.end c.loop-k-test.true (ap not plain);
    }
