use Rattle.std.proofs.Common.{◌≡◌, ◌≤◌, length, take, rules, Result, Err, sym, subst, ap, ◌∙◌, arith}
use Rattle.std.specs.Io.KnownBytes.{Consumes}
use Rattle.std.proofs.lemmas.List.{length-take-le}
use Rattle.std.proofs.lemmas.Result.{err_from_is_err_and}
use Rattle.mlx5_dump.specs.declared.status.Status.{Status}
use Rattle.mlx5_dump.specs.Dump.{Says, call, status_of}
use Rattle.mlx5_dump.specs.Feeding.{Keeps}
use Rattle.mlx5_dump.proofs.Progress.{Progress, begins, end_says, goes_on, limit, piece_says, read_fault}
use Rattle.mlx5_dump.proofs.dump.answered.Goals as goal

pub loop-init : goal.loop-init
loop-init g c =
    let source = g.S.Source.state c.args.source.now in
    let out = g.K.Sink.state c.args.out.now in
    subst (λ kept. Progress source source out out kept 0) (sym c.new-kept.ensures) (begins source out)

pub returns-in-Err : goal.returns-in-Err
returns-in-Err g c = read_fault _ _ _ _ _ _ c.loop.invariant _ c.in-Err.ensures.fails

pub returns-in-Ok-eq0 : goal.returns-in-Ok-eq0
returns-in-Ok-eq0 g c =
    let p = c.loop.invariant in
    let read = c.in-Ok-eq0.ensures in
    let none = c.in-Ok-eq0.field-0-test in
    let gives = subst (λ piece. Consumes (g.S.Source.state c.loop.source).left (g.S.Source.state c.read.new.self).left piece) (ap (λ n. take n c.read.new.buf) none) read.gives in
    let says = c.answer_last.ensures.says p.line (subst (λ kept. Keeps kept p.line) (sym c.as_slice.ensures.value) p.keeps) in
    end_says _ _ _ _ _ _ p _ _ (status_of c.answer_last.result) gives (read.ends none (search rules)) says

pub returns-in_err-answer_piece-in-Ok : goal.returns-in_err-answer_piece-in-Ok
returns-in_err-answer_piece-in-Ok g c =
    let p = c.loop.invariant in
    let answered = c.in_err-answer_piece-in-Ok.ensures in
    let was = err_from_is_err_and c.from_residual.result c.from_residual.ensures.1 in
    let same : c.from_residual.result ≡ Err c.in_err-answer_piece-in-Ok.field-0.0 = was.1 ∙ ap Err was.2 in
    let source = g.S.Source.state in
    let sink = g.K.Sink.state in
    let made = call (source c.args.source.now) (source c.read.new.self) (sink c.args.out.now) (sink c.answer_piece.new.out) in
    subst (λ (result : Result (Unit {0}) Status). Says made (status_of result)) (sym same)
    (piece_says _ _ _ _ _ _ p (source c.read.new.self) _ (take c.in-Ok.count c.read.new.buf) c.in_err-answer_piece-in-Ok.field-0.0 c.in-Ok.ensures.gives (answered.says p.line p.keeps) answered.stops)

pub returns : goal.returns
returns g c = limit _ _ _ _ _ _ c.loop.invariant c.loop-test.false

pub loop-preserved : goal.loop-preserved
loop-preserved g c =
    let p = c.loop.invariant in
    let read = c.in-Ok.ensures in
    let answered = c.in_ok-answer_piece-in-Ok.ensures in
    let piece = take c.in-Ok.count c.read.new.buf in
    let t = c.in-Ok.count-test in
    let some : 1 ≤ length piece = omega (arith, length-take-le c.in-Ok.count c.read.new.buf read.within, t) in
    goes_on _ _ _ _ _ _ p _ _ c.answer_piece.new.kept.items piece read.gives some read.never_falls answered.never_falls (answered.says p.line p.keeps) (answered.keeps p.line p.keeps)
