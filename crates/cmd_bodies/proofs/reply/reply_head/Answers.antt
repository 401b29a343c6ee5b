use Rattle.std.proofs.Common.{◌∙◌, arith}
use Rattle.cmd_bodies.proofs.reply.reply_head.Goals as goal

pub returns-clause-status : goal.returns-clause-status
returns-clause-status c = c.get.ensures.value ∙ c.first_bytes-head.ensures 0 8 (omega arith)

pub returns-clause-number : goal.returns-clause-number
returns-clause-number c = c.get-2.ensures.value ∙ c.first_bytes-head.ensures 64 32 (omega arith)

pub returns-clause-second : goal.returns-clause-second
returns-clause-second c = c.get-3.ensures.value ∙ c.first_bytes-head.ensures 96 32 (omega arith)
