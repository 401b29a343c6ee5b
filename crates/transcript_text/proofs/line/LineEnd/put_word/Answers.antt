-- Two more digits of the word.
use Rattle.std.proofs.Common.{◌+◌, ◌-◌, ◌*◌, ◌++◌, ap, arith, length}
use Rattle.scenario_text.specs.Requests.{hex}
use Rattle.transcript_text.proofs.FrontLemmas.{digits_put, digits_done}
use Rattle.transcript_text.proofs.line.LineEnd.put_word.Goals as goal

pub put_pair-requires-clause-room : goal.put_pair-requires-clause-room
put_pair-requires-clause-room c = omega (arith, c.loop-written.invariant.1)

pub loop-written-preserved : goal.loop-written-preserved
loop-written-preserved c = (
  digits_put c.loop-written.self c.put_pair.new.self (hex 16 c.args.word ++ c.args.self.now) c.loop-written.left (16 - 2 * c.loop-written.written) (16 - 2 * (c.loop-written.written + 1)) (omega arith) c.put_pair.ensures c.loop-written.invariant.0,
  omega (arith, ap length c.put_pair.ensures, c.loop-written.invariant.1),
)

pub returns-clause-text : goal.returns-clause-text
returns-clause-text c = digits_done c.loop-written.self (hex 16 c.args.word ++ c.args.self.now) c.loop-written.left (16 - 2 * c.loop-written.written) (omega arith) c.loop-written.invariant.0
