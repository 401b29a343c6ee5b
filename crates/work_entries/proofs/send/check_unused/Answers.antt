use Rattle.std.proofs.Common.{◌∙◌, sym}
use Rattle.work_entries.specs.declared.fault.EntryRule.TheVariants.{Reserved}
use Rattle.work_entries.specs.Unit.{is_clear_unit}
use Rattle.work_entries.proofs.Judging.{passed}
use Rattle.work_entries.proofs.send.check_unused.Goals as goal

pub loop-k-preserved : goal.loop-k-preserved
loop-k-preserved c = c.loop-k.invariant ∙ passed Reserved (is_clear_unit c.args.words.now) c.loop-k.k c.args.end c.loop-k-test.true (sym c.is_clear.ensures ∙ c.if-not-is_clear.false)
