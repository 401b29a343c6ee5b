-- How the calls that take completions tell of a poll, and how they end.
use Rattle.std.proofs.Common.{◌≡◌, ◌⊎◌, ℕ, suc, ◌<◌, ◌≤◌, List, [], ◌++◌, length, map, take, slice_set, Option, None, Some}
use Rattle.bus_core.specs.declared.turn.Step.{Step}
use Rattle.bus_core.specs.declared.turn.Step.TheVariants.{Done}
use Rattle.verbs_types.specs.declared.call.Call.{Call}
use Rattle.verbs_types.specs.declared.completion.Completion.{Completion}
use Rattle.verbs_types.specs.declared.completion.Queue.{Queue}
use Rattle.verbs_types.specs.declared.declaration.Lines.{Lines}
use Rattle.verbs_types.specs.declared.entry.What.{What}
use Rattle.verbs_types.specs.declared.entry.What.TheVariants.{Poll, Retire, Ack}
use Rattle.verbs_rules.specs.Answered.{Due, Answers, left_by, settling}
use Rattle.verbs_rules.specs.State.{Verbs}
use Rattle.provider_poll.specs.declared.answer.PollAnswer.{PollAnswer}
use Rattle.provider_poll.specs.declared.answer.PollAnswer.TheVariants.{Polled}
use Rattle.verbs_rules.specs.Within.{Bounds, InBounds}
use Rattle.verbs_rules.specs.Proper.{Owes}
use Rattle.verbs_rules.specs.Within as within
use Rattle.verbs_laws.proofs.GoesSettle.{ends_owed}
use Rattle.verbs_laws.proofs.Waiting.{completion_in}
use Rattle.poll_law.proofs.Dues.{Job}
use Rattle.poll_outcomes.specs.Outcome.{IsOngoing}

module _ {d : Lines} {programs : List (List Call)} {x cq most : ℕ} {calls : List Call} (job : Job d programs x cq most calls) (calls_after : Step Completion PollAnswer → List Call) (speak : Option What → Option What) where
  pub record TellsNone : Type 0 where
    pub over : (word : Option ℕ) → calls_after (Done (Polled 0 word)) ≡ job.left
    pub says : speak (Some (Poll cq most [])) ≡ Some (Poll cq most [])
    pub answers : Answers job.due (Poll cq most [])

  pub record LooksAgain : Type 0 where
    pub goes_on : (word : Option ℕ) → calls_after (Done (Polled 0 word)) ≡ calls
    pub silent : speak (Some (Poll cq most [])) ≡ None

-- how the two calls tell and end
pub record Speaks (d : Lines) (programs : List (List Call)) (x cq most : ℕ) (calls : List Call) (job : Job d programs x cq most calls) (calls_after : Step Completion PollAnswer → List Call) (speak : Option What → Option What) : Type 0 where
  pub goes_on : (answer : Step Completion PollAnswer) → IsOngoing answer → calls_after answer ≡ calls
  pub over : (taken : ℕ) (word : Option ℕ) → 0 < taken → calls_after (Done (Polled taken word)) ≡ job.left
  pub silent : speak None ≡ None
  pub tells : (xs : List Completion) → 0 < length xs → speak (Some (Poll cq most xs)) ≡ Some (Poll cq most xs)
  pub retires : (queue : Queue) (number : ℕ) → speak (Some (Retire queue number)) ≡ Some (Retire queue number)
  pub acks : (index : ℕ) → speak (Some (Ack cq index)) ≡ Some (Ack cq index)
  pub answers : (xs : List Completion) → 0 < length xs → length xs ≤ most → Answers job.due (Poll cq most xs)
  -- a look that finds none ends a poll's call, and a drain looks again
  pub empty : TellsNone job calls_after speak ⊎ LooksAgain job calls_after speak
  pub leaves : (xs : List Completion) → left_by job.due (Poll cq most xs) ≡ settling cq xs
  pub goes : (n : ℕ) (total : Bounds) (v : Verbs) (dues : List (List Due)) (t : ℕ) (rest : List Due) → InBounds n total v dues → Owes dues t job.due rest
      → within.Goes n total v (suc t) (Poll cq most (map completion_in (take most (v.unpolled cq)))) (slice_set dues t (ends_owed cq (take most (v.unpolled cq)) ++ rest))
