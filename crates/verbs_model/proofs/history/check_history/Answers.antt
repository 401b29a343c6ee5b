use Rattle.std.proofs.Common.{sym, ◌∙◌, ap, Err}
use Rattle.std.proofs.lemmas.Result.{err_from_is_err_and}
use Rattle.verbs_model.specs.Tables.{state_of}
use Rattle.verbs_model.proofs.Histories.{legal_from_none, found, none_found}
use Rattle.verbs_model.proofs.history.check_history.Goals as goal

pub returns-in_err-apply-clause-illegal : goal.returns-in_err-apply-clause-illegal
returns-in_err-apply-clause-illegal c = λ i same.
    let p = err_from_is_err_and c.from_residual.result c.from_residual.ensures.1 in
    let given = ap Err (sym p.2) ∙ (sym p.1 ∙ same) in
    let fact = (c.in_err-apply.ensures.illegal i).0 given in
    sym c.loop-at.invariant ∙ found (state_of c.loop-at.state) c.loop-at.«at» c.args.h.now c.index-h-at.result i c.loop-at-test.true c.index-h-at.is fact.1 fact.0

pub returns-clause-legal : goal.returns-clause-legal
returns-clause-legal c =
    legal_from_none (state_of c.args.first.now) 0 c.args.h.now (sym c.loop-at.invariant ∙ none_found (state_of c.loop-at.state) c.loop-at.«at» c.args.h.now c.loop-at-test.false)
