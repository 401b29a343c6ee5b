-- The side that polls a declared completion queue, at first.
use Rattle.std.specs.Prelude.{ℕ, ◌≡◌, ◌==◌, IsTrue, Bool, List, map, filter, length, Option, Some, None, if◌then◌else◌}
use Rattle.std.specs.List.{range_with_len}
use Rattle.verbs_types.specs.declared.declaration.Lines.{Lines}
use Rattle.verbs_types.specs.declared.declaration.TheConstants.{FIRST_QP}
use Rattle.verbs_types.specs.Lines.{is_declared, is_among}
use Rattle.actor_map.specs.Sizes.{words_of}
use Rattle.owner_ring.specs.Consumer.{Waiting}
use Rattle.object_places.specs.Places.{cq_line, qp_line, completions_of, send_of}
use Rattle.provider_poll.specs.declared.state.PollState.TheVariants.{Idle}
use Rattle.provider_poll.specs.SendQueue.{SendView, fresh_retirer, fresh_queue}
use Rattle.provider_poll.specs.Poll.{PollView, LiesWithin, fresh_side}
use Rattle.provider_poll.specs.Rule.{QueuePlace, PollPlace, PollRule}
use Rattle.provider_poll.specs.FollowsRule.{place_of, rule_of}

abbrev pub completes_to : Lines → (cq qp : ℕ) → Bool
completes_to d cq qp = (qp_line d qp).send_cq == cq

-- the queue pairs whose send queues complete to the completion queue, by number and in the order of their numbers
abbrev pub senders : Lines → ℕ → List ℕ
senders d cq = filter (completes_to d cq) (range_with_len FIRST_QP (length d.qps))

abbrev pub fresh_sender : Lines → ℕ → SendView
fresh_sender d qp = fresh_queue qp (send_of d qp)

abbrev pub fresh_queues : Lines → ℕ → List SendView
fresh_queues d cq = map (fresh_sender d) (senders d cq)

-- the place of a queue pair's queue behind `queues` others
abbrev pub next_place : Lines → (cq qp queues : ℕ) → Option ℕ
next_place d cq qp queues = if completes_to d cq qp then Some queues else None

-- The idle side, from the index that the line of the completion queue starts at.
abbrev pub fresh_poll : Lines → ℕ → PollView
fresh_poll d cq = fresh_side (completions_of d cq) (cq_line d cq).start (fresh_queues d cq)

-- the same for its rule
abbrev pub sender_place : Lines → ℕ → QueuePlace
sender_place d qp = record { number = qp; place = send_of d qp }

abbrev pub poll_place : Lines → ℕ → PollPlace
poll_place d cq = record { cq = completions_of d cq; queues = map (sender_place d) (senders d cq) }

abbrev pub fresh_rule : Lines → ℕ → PollRule
fresh_rule d cq = record {
  host = Waiting (cq_line d cq).start (cq_line d cq).start;
  seen = 0;
  retirers = map (λ (qp : ℕ). fresh_retirer) (senders d cq);
  state = Idle;
}

-- the words of a declared side are among those of its objects
abbrev pub LieWithin : Type 0
LieWithin = (d : Lines) (cq : ℕ) → IsTrue (is_declared d) → IsTrue (is_among 0 (length d.cqs) cq) → LiesWithin (words_of d) (fresh_poll d cq)

-- the side is seen by its rule as the rule's beginning
pub record BeginsAs (d : Lines) (cq : ℕ) : Type 0 where
  pub place : place_of (fresh_poll d cq) ≡ poll_place d cq
  pub rule : rule_of (fresh_poll d cq) ≡ fresh_rule d cq
