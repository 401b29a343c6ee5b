use Rattle.std.proofs.Common.{◌≡◌, subst}
use Rattle.cmd_slots.specs.HostInside.{IsAtWork}
use Rattle.cmd_slots.proofs.Questions.{question_whole}
use Rattle.cmd_slots.proofs.host.SlotHost.turn.Goals as goal

pub store_question-requires-clause-shape : goal.store_question-requires-clause-shape
store_question-requires-clause-shape g c =
    let a = c.self.inside in
    let stored = subst (IsAtWork a.slot a.asked a.long a.command a.words) c.in-Asking.is c.self.invariant.work in
    (question_whole a.slot a.command _ stored.question).shape

pub store_question-requires-then-count-self-clause-shape : goal.store_question-requires-then-count-self-clause-shape
store_question-requires-then-count-self-clause-shape g c =
    let a = c.self.inside in
    let stored = subst (IsAtWork a.slot a.asked a.long a.command a.words) c.in-Filling.is c.self.invariant.work in
    (question_whole a.slot a.command _ stored.1.question).shape
