use Rattle.std.proofs.Common.{◌≡◌, None}
use Rattle.prm_fields.specs.Refusal.{first_refusal}
use Rattle.cmd_slots.specs.Question.{rules_before}
use Rattle.cmd_slots.proofs.question.judge_blocks.Given as goal

abbrev pub invariant-loop-b : goal.invariant-loop-b
invariant-loop-b l = first_refusal (rules_before l.slot l.words l.b) ≡ None
