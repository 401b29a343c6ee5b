-- The piece ends where the line begins.
use Rattle.std.proofs.Common.{◌-◌, ◌++◌, ◌∙◌, ap, arith, drop, length, length-drop}
use Rattle.transcript_text.proofs.FrontLemmas.{last_put}
use Rattle.transcript_text.proofs.line.LineEnd.put_last.Goals as goal

pub returns : goal.returns
returns g c =
    let long = ap length c.self.view_is in
    let n = g.row.N in
    let start = c.self.inside.start in
    last_put c.self.inside.bytes c.copy_from_slice.new.self c.args.self.now start (start - n) (start - (start - n)) c.args.count n (omega (arith, length-drop start c.self.inside.bytes, c.self.told)) (omega (arith, length-drop start c.self.inside.bytes, c.self.told)) (ap length c.copy_from_slice.ensures.after ∙ c.told-bytes) c.requires.count (omega (arith, c.self.told)) c.self.view_is
    ∙ ap (λ t. drop (n - c.args.count) t ++ c.args.self.now) c.copy_from_slice.ensures.after
