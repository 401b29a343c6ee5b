-- What an operation leaves as it was of completion queues and of the adapter, where the requests that were taken are as they were.
use Rattle.std.proofs.Common.{◌≡◌, ℕ, ◌≤◌, ◌∙◌, List, Option}
use Rattle.verbs_types.specs.declared.completion.Completion.{Completion}
use Rattle.verbs_types.specs.declared.completion.Queue.TheVariants.{Send}
use Rattle.verbs_types.specs.declared.declaration.Lines.{Lines}
use Rattle.verbs_types.specs.declared.state.Unpolled.{Unpolled}
use Rattle.verbs_rules.specs.State.{Verbs}
use Rattle.verbs_rules.specs.OfOne.{completions_in}
use Rattle.cqe_format.specs.declared.completion.Cqe.{Cqe}
use Rattle.owner_ring.specs.Place.{size}
use Rattle.cq_pair.specs.Place.{ring_of}
use Rattle.cq_pair.specs.Queue.{produced, since}
use Rattle.object_places.specs.Places.{completions_of}
use Rattle.object_places.specs.Objects.{Lives, Sends}
use Rattle.provider_poll.specs.declared.state.PollState.{PollState}
use Rattle.provider_poll.specs.declared.state.PollState.TheVariants as states
use Rattle.provider_poll.specs.Rule.{PollRule}
use Rattle.device_engine.specs.State.{AdapterRule, AdapterAt, Looking, Recording, Reading, Publishing, Ending, send_cq}
use Rattle.actor_rules.specs.Adapter.{AdapterStandsAt}
use Rattle.actor_rules.specs.Completions.{Counts, Shows, held, CompletionsStand, IsCompletion, PollStands, IsLookedUp}
use Rattle.actor_rules.proofs.Growing.{Grows, completion_kept}
use Rattle.actor_rules.specs.Matching.{Match}
use Rattle.actor_rules.proofs.Matching.{match_weaken}
use Rattle.actor_rules.specs.Objects.{Lists}

module _ (d : Lines) (l l' : Lists) (grows : (qp : ℕ) → Grows (l.queues (Send qp)) (l'.queues (Send qp))) where
  pub completion_same : (c : Cqe) (u : Unpolled) → IsCompletion l c u → IsCompletion l' c u
  completion_same c u h = completion_kept l l' c u (grows u.completion.qp) h

  looked_up_kept : (cq : ℕ) (c : Cqe) (place : ℕ) (next : Option Unpolled) → IsLookedUp d cq l c place next → IsLookedUp d cq l' c place next
  looked_up_kept cq c place next h = record { unpolled = h.unpolled; next_is = h.next_is; spells = completion_same c h.unpolled h.spells; queue_is = h.queue_is }

  poll_kept : (cq : ℕ) (p : PollRule) (given : List Completion) (us : List Unpolled) (state : PollState) → PollStands d cq l p given us state → PollStands d cq l' p given us state
  poll_kept cq p given us states.Idle h = h
  poll_kept cq p given us (states.Polling most ends) h = h
  poll_kept cq p given us (states.LookingUp most ends c place) h = (h.0, h.1, h.2, looked_up_kept cq c place _ h.3)
  poll_kept cq p given us (states.Retiring taken empty left) h = h
  poll_kept cq p given us (states.Acking taken empty) h = h

  -- a completion queue that the operation was not on
  pub completions_kept : (p : PollRule) (given : List Completion) (v v' : Verbs) (cq : ℕ) → l'.completions cq ≡ l.completions cq → completions_in v' cq ≡ completions_in v cq
      → ((qp : ℕ) → Lives d (Sends qp) → send_cq d qp ≡ cq → (v'.settled (Send qp)).ends ≡ (v.settled (Send qp)).ends) → CompletionsStand d l p given v cq → CompletionsStand d l' p given v' cq
  completions_kept p given v v' cq list same ends h = record {
    counts = coe 1 0 (i. Counts (same i).acked (same i).produced (same i).size (list i).overrun (list i).acked (produced (list i)) (size (ring_of (completions_of d cq)))) h.counts;
    from = h.from;
    from_is = h.from_is;
    low = coe 1 0 (i. (list i).acked ≤ h.from) h.low;
    unpolled = coe 1 0 (i. Match (IsCompletion l') (since (list i) h.from) (same i).unpolled) (match_weaken (IsCompletion l) (IsCompletion l') completion_same _ _ h.unpolled);
    reads = h.reads;
    shows = coe 1 0 (i. Shows p.host p.seen (held p.state) (produced (list i))) h.shows;
    poll = coe 1 0 (i. PollStands d cq l' p given (same i).unpolled p.state) (poll_kept cq p given (v.unpolled cq) p.state h.poll);
    retirers = h.retirers;
    asked = h.asked;
    ends = λ qp lives home. ends qp lives home ∙ h.ends qp lives home;
  }

  -- the adapter's work is what the state owes as before
  pub work_kept : (v v' : Verbs) (a : AdapterRule) (work : AdapterAt) → v'.device.owed ≡ v.device.owed → AdapterStandsAt d l v a work → AdapterStandsAt d l' v' a work
  work_kept v v' a Looking same h = record { lives = h.lives; idle = same ∙ h.idle }
  work_kept v v' a Recording same h = record { lives = h.lives; idle = same ∙ h.idle }
  work_kept v v' a Reading same h = record { visits = record { lives = h.visits.lives; idle = same ∙ h.visits.idle }; sends = h.sends; ready = h.ready }
  work_kept v v' a (Publishing cq c) same h = record { lives = h.lives; queue = h.queue; unpolled = h.unpolled; owed = same ∙ h.owed; spells = completion_same c h.unpolled h.spells; pair = h.pair; number = h.number }
  work_kept v v' a Ending same h = same ∙ h
