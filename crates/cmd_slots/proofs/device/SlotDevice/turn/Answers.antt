use Rattle.std.proofs.Common.{◌≡◌, refl, ap, sym, ◌∙◌, subst, length, take, slice_set, Some, None, Result}
use Rattle.bus_core.specs.Port.{made}
use Rattle.bus_core.specs.declared.operation.BusOp.TheVariants.{Load}
use Rattle.cmd_bodies.specs.declared.command.Command.{Command}
use Rattle.cmd_slots.specs.declared.answer.Answer.{Answer}
use Rattle.cmd_slots.specs.declared.device.Phase.{Phase}
use Rattle.cmd_slots.specs.Question.{verdict}
use Rattle.cmd_slots.specs.DeviceInside.{IsAtWork, IsJudged, stage_in, task_in}
use Rattle.cmd_slots.proofs.DeviceTurns.{reads_more, reads_judged, turn_judged}
use Rattle.cmd_slots.proofs.device.SlotDevice.turn.Goals as goal

pub invariant_of-self : goal.invariant_of-self
invariant_of-self g c =
    let a = c.self.inside in
    let full : length a.loaded ≡ 296 = search in
    let reading = subst (IsAtWork a.answered a.loaded a.question.value a.answer.value (take a.long a.words) a.long) c.in-Reading.is c.self.invariant.work in
    record {
      slot_ok = c.self.invariant.slot_ok;
      long_few = c.self.invariant.long_few;
      work = reads_more a.slot a.answered c.in-Reading.count c.load.result a.loaded full reading (sym c.judge.ensures ∙ c.in-None.is);
    }

pub invariant_of-self-in-Some : goal.invariant_of-self-in-Some
invariant_of-self-in-Some g c =
    let a = c.self.inside in
    let full : length a.loaded ≡ 296 = search in
    let reading = subst (IsAtWork a.answered a.loaded a.question.value a.answer.value (take a.long a.words) a.long) c.in-Reading.is c.self.invariant.work in
    record {
      slot_ok = c.self.invariant.slot_ok;
      long_few = c.self.invariant.long_few;
      work = subst (λ (question : Result Command Answer). IsJudged a.answered question) (sym c.of.ensures) (reads_judged a.slot a.answered c.in-Reading.count c.load.result a.loaded full reading c.in-Some.question (sym c.judge.ensures ∙ c.in-Some.is));
    }

pub returns-in-Some-clause-made : goal.returns-in-Some-clause-made
returns-in-Some-clause-made g c =
    let a = c.self.inside in
    let full : length a.loaded ≡ 296 = search in
    let reading = subst (IsAtWork a.answered a.loaded a.question.value a.answer.value (take a.long a.words) a.long) c.in-Reading.is c.self.invariant.work in
    let e = made (g.P.BusPort.port c.args.port.now) c.question_word-address.result Load (Some c.load.result) in
    let seen = ap (λ (ph : Phase). record { slot = a.slot; side = record { answered = a.answered; stage = stage_in a.loaded a.question.value a.answer.value (take a.long a.words) ph }; task = task_in a.answer.value (take a.long a.words) ph; seen = a.seen }) (sym c.in-Reading.is) ∙ c.self.view_is in
    let turn = turn_judged a.slot a.answered c.in-Reading.count c.load.result a.loaded full reading a.seen c.in-Some.question (sym c.judge.ensures ∙ c.in-Some.is) e (record { op = refl; at_address = c.question_word-address.ensures.at }) c.question_word-address.ensures.inside refl c.args.self.now seen c.of.result.value c.of.ensures c.done_of.result c.done_of.ensures in
    (e, c.load.ensures, turn)
