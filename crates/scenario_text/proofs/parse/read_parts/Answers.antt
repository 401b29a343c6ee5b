use Rattle.std.proofs.Common.{◌∷◌, sym, ap, ◌∙◌, subst, arith}
use Rattle.std.specs.Option.{option_copied}
use Rattle.scenario_text.specs.Sofar.{view_of}
use Rattle.scenario_text.specs.Text.{parts}
use Rattle.scenario_text.specs.Whole.{HasFault}
use Rattle.scenario_text.proofs.Ends.{ends_declared}
use Rattle.scenario_text.proofs.Reading.{reads_first, reads_next, breaks_at, unended_at, ends_at, shorter_by, whole_by, some_left, none_left, found_says, fault_says}
use Rattle.scenario_text.proofs.parse.read_parts.Goals as goal

pub loop-rest-init : goal.loop-rest-init
loop-rest-init c = reads_first c.args.text.now (view_of c.in_ok-sofar.sofar) c.in_ok-sofar.ensures c.requires.short

pub overflow_add-sofar : goal.overflow_add-sofar
overflow_add-sofar c = omega (arith, c.loop-rest.invariant.small.count)

pub returns-in-Some-clause-fault : goal.returns-in-Some-clause-fault
returns-in-Some-clause-fault c =
    subst (HasFault c.args.text.now) (sym c.malformed.ensures)
    (breaks_at c.args.text.now c.loop-rest.rest.now c.cut.result.0.now c.cut.result.1 (view_of c.loop-rest.sofar) c.in-Some.why c.loop-rest.invariant (some_left c.is_empty.result c.loop-rest.rest.now c.is_empty.ensures c.loop-rest-test.true) c.cut.ensures.parts c.cut.ensures.shorter (sym c.fault.ensures ∙ c.in-Some.is))

pub add-requires-clause-small : goal.add-requires-clause-small
add-requires-clause-small c = c.loop-rest.invariant.small

pub add-requires-clause-left : goal.add-requires-clause-left
add-requires-clause-left c = omega (arith, c.loop-rest.invariant.few, shorter_by c.cut.result.1 c.in-Some-after.after c.cut.result.0.now c.loop-rest.rest.now c.in-Some-after.is c.cut.ensures.shorter)

pub loop-rest-smaller : goal.loop-rest-smaller
loop-rest-smaller c = shorter_by c.cut.result.1 c.in-Some-after.after c.cut.result.0.now c.loop-rest.rest.now c.in-Some-after.is c.cut.ensures.shorter

pub loop-rest-preserved : goal.loop-rest-preserved
loop-rest-preserved c =
    reads_next c.args.text.now c.loop-rest.rest.now c.cut.result.0.now c.in-Some-after.after.now (view_of c.loop-rest.sofar) (view_of c.add.new.self) c.loop-rest.invariant
    (sym c.fault.ensures ∙ c.in_default.is)
    (c.cut.ensures.parts ∙ ap (λ left. c.cut.result.0.now ∷ parts 10 (option_copied left)) c.in-Some-after.is)
    (shorter_by c.cut.result.1 c.in-Some-after.after c.cut.result.0.now c.loop-rest.rest.now c.in-Some-after.is c.cut.ensures.shorter)
    c.in_ok-add-in-Some-after.ensures.added

pub overflow_add-sofar-in-None : goal.overflow_add-sofar-in-None
overflow_add-sofar-in-None c = omega (arith, c.loop-rest.invariant.small.count)

pub returns-in-None-clause-fault : goal.returns-in-None-clause-fault
returns-in-None-clause-fault c =
    subst (HasFault c.args.text.now) (sym c.malformed-in-None.ensures)
    (unended_at c.args.text.now c.loop-rest.rest.now c.cut.result.0.now (view_of c.loop-rest.sofar) c.loop-rest.invariant
    (some_left c.is_empty.result c.loop-rest.rest.now c.is_empty.ensures c.loop-rest-test.true)
    (c.cut.ensures.parts ∙ ap (λ left. c.cut.result.0.now ∷ parts 10 (option_copied left)) c.in-None.is)
    (whole_by c.cut.result.1 c.cut.result.0.now c.loop-rest.rest.now c.in-None.is c.cut.ensures.shorter)
    (sym c.fault.ensures ∙ c.in_default.is))

pub returns-clause-found : goal.returns-clause-found
returns-clause-found c = found_says c.finish.result (view_of c.loop-rest.sofar) c.args.text.now (ends_at c.args.text.now c.loop-rest.rest.now (view_of c.loop-rest.sofar) c.loop-rest.invariant (none_left c.is_empty.result c.loop-rest.rest.now c.is_empty.ensures c.loop-rest-test.false)) c.finish.ensures.found

pub returns-clause-fault : goal.returns-clause-fault
returns-clause-fault c = fault_says c.finish.result (view_of c.loop-rest.sofar) c.args.text.now (ends_at c.args.text.now c.loop-rest.rest.now (view_of c.loop-rest.sofar) c.loop-rest.invariant (none_left c.is_empty.result c.loop-rest.rest.now c.is_empty.ensures c.loop-rest-test.false)) c.finish.ensures.fault

pub finish-requires : goal.finish-requires
finish-requires c = record { declared = ends_declared (view_of c.loop-rest.sofar) c.loop-rest.invariant.kept }
