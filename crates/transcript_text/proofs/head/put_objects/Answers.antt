-- Each object of declared lines is one of them.
use Rattle.std.proofs.Common.{All, sym, subst}
use Rattle.transcript_text.specs.Numbers.{IsObject}
use Rattle.transcript_text.proofs.ObjectLemmas.{objects_are_declared}
use Rattle.transcript_text.proofs.head.put_objects.Goals as goal

pub put_object-requires-clause-object : goal.put_object-requires-clause-object
put_object-requires-clause-object c =
    subst (λ os. All (IsObject c.args.lines.now) os) (sym c.as_slice-object-items.ensures) (objects_are_declared c.args.lines.now c.requires)
    c.loop-object.object-index
    _
    c.loop-object-test.true
