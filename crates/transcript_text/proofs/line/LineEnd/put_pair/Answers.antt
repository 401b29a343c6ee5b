-- The digits of the byte stand at twice its place.
use Rattle.std.proofs.Common.{◌∷◌, ◌∙◌, ap, arith, length, length-drop}
use Rattle.transcript_text.proofs.FrontLemmas.{pair_put}
use Rattle.transcript_text.proofs.PairLemmas.{PAIRS_at}
use Rattle.transcript_text.proofs.line.LineEnd.put_pair.Goals as goal

pub returns : goal.returns
returns c =
    let p = PAIRS_at c.args.byte c.requires.byte in
    let long = ap length c.self.view_is in
    pair_put c.self.inside.bytes c.args.self.now c.self.inside.start _ _ (omega (arith, length-drop c.self.inside.start c.self.inside.bytes, c.self.told)) (omega (arith, c.self.told)) c.self.view_is
    ∙ (λ i. p.0 i ∷ p.1 i ∷ c.args.self.now)
