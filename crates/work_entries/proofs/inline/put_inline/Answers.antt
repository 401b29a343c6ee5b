use Rattle.work_entries.proofs.InlineSegments.{written}
use Rattle.work_entries.proofs.inline.put_inline.Goals as goal

pub returns-clause-stored : goal.returns-clause-stored
returns-clause-stored c =
    written c.args.bytes.now c.inline_segment.result c.put_units.new.words c.args.first c.inline_units.result c.requires.most c.inline_units.ensures c.put_units.ensures.stored c.inline_segment.ensures.head c.inline_segment.ensures.rest
