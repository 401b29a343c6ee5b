-- The last bytes of the word are written, and those before them are left.
use Rattle.std.proofs.Common.{◌≡◌, ◌+◌, ◌-◌, ◌*◌, ◌++◌, length}
use Rattle.scenario_text.specs.Requests.{hex}
use Rattle.transcript_text.proofs.line.LineEnd.put_word.Given as goal

abbrev pub invariant-loop-written : goal.invariant-loop-written
invariant-loop-written l = (hex (16 - 2 * l.written) l.left ++ l.self ≡ hex 16 l.word ++ l.fn.self) × (length l.self ≡ length l.fn.self + 2 * l.written)
