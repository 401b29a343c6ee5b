use Rattle.std.proofs.Common.{sym, ◌∙◌}
use Rattle.work_entries.proofs.Words.{word_bytes-is}
use Rattle.work_entries.proofs.units.bytes_of.Goals as goal

pub returns : goal.returns
returns c = c.to_be_bytes.ensures ∙ sym (word_bytes-is c.args.word)
