use Rattle.work_entries.proofs.Words.{unit_put}
use Rattle.work_entries.proofs.units.put_unit.Goals as goal

pub returns-clause-stored : goal.returns-clause-stored
returns-clause-stored c = unit_put c.args.words.now c.args.bytes.now c.args.k c.word_at.result c.word_at-2.result c.told-bytes c.requires.inside c.word_at.ensures c.word_at-2.ensures
