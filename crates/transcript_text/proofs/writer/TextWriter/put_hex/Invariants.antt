-- The digits above the place are in the text.
use Rattle.transcript_text.proofs.HexLemmas.{IsWrittenTo}
use Rattle.transcript_text.proofs.writer.TextWriter.put_hex.Given as goal

abbrev pub invariant-loop-place : goal.invariant-loop-place
invariant-loop-place l = IsWrittenTo l.fn.self l.self l.digits l.number l.place
