use Rattle.std.proofs.Common.{◌∙◌}
use Rattle.std.proofs.lemmas.Result.{err_from_is_err_and}
use Rattle.work_entries.proofs.Reading.{at_control, at_operation, at_body, at_unused, opcode_seen, units_seen, whole}
use Rattle.work_entries.proofs.send.sent_at.Goals as goal

pub returns-in_err-control-clause-refused : goal.returns-in_err-control-clause-refused
returns-in_err-control-clause-refused c =
    let p = err_from_is_err_and c.from_residual.result c.from_residual.ensures.1 in
    rw (p.1, p.2) (at_control c.args.w.now c.in_err-control.field-0.0 c.in_err-control.ensures.refused)

pub returns-in_err-op-clause-refused : goal.returns-in_err-op-clause-refused
returns-in_err-op-clause-refused c =
    let p = err_from_is_err_and c.from_residual-in_err-op.result c.from_residual-in_err-op.ensures.1 in
    let w = c.args.w.now in
    let control = c.in_ok-control.control in
    let found = c.in_ok-control.ensures.found in
    rw (p.1, p.2) (at_operation w control.opcode control.units (opcode_seen w control found) (units_seen w control found) c.in_ok-control.ensures.refused c.in_err-op.field-0.0 c.in_err-op.ensures.refused)

pub returns-in_err-body-clause-refused : goal.returns-in_err-body-clause-refused
returns-in_err-body-clause-refused c =
    let p = err_from_is_err_and c.from_residual-in_err-body.result c.from_residual-in_err-body.ensures.1 in
    let w = c.args.w.now in
    let control = c.in_ok-control.control in
    let found = c.in_ok-control.ensures.found in
    rw (p.1, p.2) (at_body w control.opcode control.units (opcode_seen w control found) (units_seen w control found) c.in_ok-control.ensures.refused c.in_ok-op.ensures.refused c.in_err-body.field-0.0 c.in_err-body.ensures.refused)

pub returns-in_err-check_unused-clause-refused : goal.returns-in_err-check_unused-clause-refused
returns-in_err-check_unused-clause-refused c =
    let p = err_from_is_err_and c.from_residual-in_err-check_unused.result c.from_residual-in_err-check_unused.ensures.1 in
    let w = c.args.w.now in
    let control = c.in_ok-control.control in
    let found = c.in_ok-control.ensures.found in
    rw (p.1, p.2) (at_unused w control.opcode control.units (opcode_seen w control found) (units_seen w control found) c.in_ok-control.ensures.refused c.in_ok-op.ensures.refused c.in_ok-body.ensures.refused ∙ c.in_err-check_unused.ensures)

pub returns-clause-found : goal.returns-clause-found
returns-clause-found c =
    whole c.args.w.now c.in_ok-control.control c.in_ok-op.op c.in_ok-body.body c.in_ok-control.ensures.found c.in_ok-op.ensures.found c.in_ok-body.ensures.found c.in_ok-check_unused.ensures

pub returns-clause-refused : goal.returns-clause-refused
returns-clause-refused c =
    let w = c.args.w.now in
    let control = c.in_ok-control.control in
    let found = c.in_ok-control.ensures.found in
    at_unused w control.opcode control.units (opcode_seen w control found) (units_seen w control found) c.in_ok-control.ensures.refused c.in_ok-op.ensures.refused c.in_ok-body.ensures.refused
    ∙ c.in_ok-check_unused.ensures
