-- There is room for ten digits.
use Rattle.std.proofs.Common.{ap, arith, decimal, drop, length, length-append, length-drop}
use Rattle.std.proofs.lemmas.Fmt.{length-decimal-le}
use Rattle.transcript_text.proofs.line.LineEnd.put_number.Goals as goal

pub write_digits-self-inside-requires : goal.write_digits-self-inside-requires
write_digits-self-inside-requires c =
    let short = length-decimal-le 10 c.from.result (omega arith) (omega arith) (omega arith) in
    let room = ap length c.self.view_is in
    (omega (arith, length-drop c.self.inside.start c.self.inside.bytes, c.self.told), omega (arith, c.self.told))

pub returns-clause-short : goal.returns-clause-short
returns-clause-short c =
    let short = length-decimal-le 10 c.from.result (omega arith) (omega arith) (omega arith) in
    omega (arith, ap length c.write_digits-self-inside.ensures.written, length-append (decimal c.from.result) (drop c.self.inside.start c.self.inside.bytes), ap length c.self.view_is)
