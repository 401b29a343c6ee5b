use Rattle.work_entries.proofs.OneValue.{only}
use Rattle.work_entries.proofs.send.decode_send.Goals as goal

pub returns-clause-only : goal.returns-clause-only
returns-clause-only c = λ s is. only c.sent_at.result s c.args.w.now c.sent_at.ensures.found c.sent_at.ensures.refused is
