-- The machine that polls, as its rule sees it, and what a turn of it does.
use Rattle.std.specs.Prelude.{ℕ, ◌≡◌, ◌<◌, true, map, slice_get, Some}
use Rattle.bus_core.specs.declared.operation.BusEntry.{BusEntry}
use Rattle.bus_core.specs.declared.turn.Step.{Step}
use Rattle.verbs_types.specs.declared.completion.Completion.{Completion}
use Rattle.owner_ring.specs.Place as ring
use Rattle.cq_pair.specs.Place.{ring_of}
use Rattle.counted_ring.specs.Place as counted
use Rattle.provider_poll.specs.declared.answer.PollAnswer.{PollAnswer}
use Rattle.provider_poll.specs.Left.{poll_left}
use Rattle.provider_poll.specs.SendQueue.{SendView}
use Rattle.provider_poll.specs.Poll.{PollView}
use Rattle.provider_poll.specs.Rule.{QueuePlace, PollPlace, PollRule, PollMark, MayPollSide}
use Rattle.provider_poll.specs.RuleStep.{after_poll_side, poll_side_step}

abbrev pub queue_place : SendView → QueuePlace
queue_place q = record { number = q.number; place = q.place }

abbrev pub place_of : PollView → PollPlace
place_of v = record { cq = v.host.place; queues = map queue_place v.queues }

abbrev pub rule_of : PollView → PollRule
rule_of v = record { host = v.host.side; seen = v.host.seen; retirers = map (λ (q : SendView). q.side) v.queues; state = v.state }

-- One operation of the rule, with this mark: what the side is after it, its answer and its note are the rule's.
pub record FollowsRule (old new : PollView) (e : BusEntry) (answer : Step Completion PollAnswer) : Type 0 where
  pub mark : PollMark
  pub may : MayPollSide (place_of old) (rule_of old) mark e
  pub rule : rule_of new ≡ after_poll_side (place_of old) (rule_of old) mark e
  pub answer_is : answer ≡ (poll_side_step (place_of old) (rule_of old) mark e).answer
  pub noted : new.noted ≡ (poll_side_step (place_of old) (rule_of old) mark e).noted
  pub place : place_of new ≡ place_of old

-- a word of the completion queue's ring, or one of a send queue
pub data IsInside (v : PollView) (address : ℕ) : Type 0 where
  OnRing : ring.touches (ring_of v.host.place) address ≡ true → IsInside v address
  OnSends : (queue : ℕ) (q : SendView) → slice_get v.queues queue ≡ Some q → counted.touches q.place address ≡ true → IsInside v address

abbrev pub rule_left : PollRule → ℕ
rule_left r = poll_left r.host r.retirers r.state

-- how many turns the poll that is under way takes at most from here on
abbrev pub turns_left : PollView → ℕ
turns_left v = rule_left (rule_of v)

-- One operation of a poll, as the poll's rule has it, on one of its words.
pub record PollTurn (old new : PollView) (e : BusEntry) (answer : Step Completion PollAnswer) : Type 0 where
  pub follows : FollowsRule old new e answer
  pub inside : IsInside old e.addr
  pub fewer : turns_left new < turns_left old
