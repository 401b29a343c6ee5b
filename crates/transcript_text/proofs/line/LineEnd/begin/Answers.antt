-- The last byte is the end of a line.
use Rattle.std.proofs.Common.{◌∷◌, ◌∙◌, ap, arith}
use Rattle.std.proofs.lemmas.List.{drop-set, drop_all}
use Rattle.transcript_text.proofs.line.LineEnd.begin.Goals as goal

pub returns : goal.returns
returns c = let long = c.self.told in drop-set c.self.inside.bytes 79 10 (omega arith) ∙ ap (λ xs. 10 ∷ xs) (drop_all 80 c.self.inside.bytes (omega arith))
