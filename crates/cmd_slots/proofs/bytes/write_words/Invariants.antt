use Rattle.std.proofs.Common.{◌≡◌, ◌*◌, take}
use Rattle.cmd_slots.specs.Bytes.{bytes_of}
use Rattle.cmd_slots.proofs.bytes.write_words.Given as goal

abbrev pub invariant-loop-k : goal.invariant-loop-k
invariant-loop-k l = take (8 * l.k) l.bytes ≡ bytes_of (take l.k l.words)
