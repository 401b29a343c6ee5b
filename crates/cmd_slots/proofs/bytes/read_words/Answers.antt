use Rattle.std.proofs.Common.{arith, rules}
use Rattle.cmd_slots.proofs.Spelling.{AreBytes, spelled_again}
use Rattle.cmd_slots.proofs.bytes.read_words.Goals as goal

pub returns : goal.returns
returns c =
    let small : AreBytes c.args.bytes.now = λ k. search (rules, c.type_inv.bytes) in
    spelled_again c.loop-k.words c.args.bytes.now (omega (arith, c.requires.long, c.loop-k.auto.words)) small (λ k inside. c.loop-k.invariant k (omega (arith, inside, c.loop-k-test.false, c.loop-k.auto.words)))
