use Rattle.device_engine.proofs.Starting.{pair_line}
use Rattle.device_engine.proofs.start.line_of.Goals as goal

pub returns-clause-start : goal.returns-clause-start
returns-clause-start c = (pair_line c.args.d.now c.args.number c.lines.ensures.declared c.requires.object).start

pub returns-clause-send_cq : goal.returns-clause-send_cq
returns-clause-send_cq c = (pair_line c.args.d.now c.args.number c.lines.ensures.declared c.requires.object).send_cq_lives

pub returns-clause-number : goal.returns-clause-number
returns-clause-number c = (pair_line c.args.d.now c.args.number c.lines.ensures.declared c.requires.object).number
