-- What an operation of a poll leaves and tells.
use Rattle.std.specs.Prelude.{ℕ, ◌+◌, ◌++◌, ◌==◌, nat_lt, position, List, [], ◌∷◌, Option, Some, None, if◌then◌else◌}
use Rattle.arrayvec.specs.ArrayVec.{ArrayVec, array_vec_len}
use Rattle.bus_core.specs.declared.turn.Step.{Step}
use Rattle.bus_core.specs.declared.turn.Step.TheVariants.{More, Gave, Done}
use Rattle.verbs_types.specs.declared.completion.Completion.{Completion}
use Rattle.cqe_format.specs.declared.completion.Cqe.{Cqe}
use Rattle.cq_pair.specs.declared.host.CqDone.{CqDone}
use Rattle.cq_pair.specs.declared.host.CqDone.TheVariants.{Took, Empty}
use Rattle.counted_ring.specs.declared.retirer.Retired.{Retired}
use Rattle.counted_ring.specs.declared.retirer.Retired.TheVariants.{Found}
use Rattle.provider_poll.specs.declared.answer.PollAnswer.TheVariants.{Polled}
use Rattle.provider_poll.specs.declared.state.End.{End}
use Rattle.provider_poll.specs.declared.state.PollState.TheVariants.{Idle, Polling, LookingUp}
use Rattle.provider_poll.specs.declared.poll_step.PollStep.{PollStep}
use Rattle.provider_poll.specs.Completion.{is_of_request, completion_of}
use Rattle.provider_poll.specs.Note.{poll_note, retire_note, ack_note}
use Rattle.provider_poll.specs.SendQueue.{SendView}
use Rattle.provider_poll.specs.Stores.{storing}

-- the place of the queue of this queue pair
abbrev pub place_of_number : List SendView → ℕ → Option ℕ
place_of_number queues number = position (λ q. q.number == number) queues

-- the place of the send queue whose request it completes
abbrev pub place_of : List SendView → Cqe → Option ℕ
place_of queues c = if is_of_request c then place_of_number queues c.qpn else None

module _ (number : ℕ) (queues : List SendView) (max : ℕ) (ends : ArrayVec End) (seen : ℕ) where
  -- One more completion was taken and is given. Where it is the last that was asked for, the poll's loads are over.
  abbrev pub with_end : End → Completion → PollStep
  with_end end given =
      if nat_lt (array_vec_len ends + 1) max then record { state = Polling max (record { items = ends.items ++ end ∷ [] }); answer = Gave given; noted = None }
      else record { state = storing queues (array_vec_len ends + 1) None (ends.items ++ end ∷ []); answer = Gave given; noted = Some (poll_note number max (array_vec_len ends + 1) seen) }

  -- No completion is left, by this owner word. The poll's loads are over, and where it took none, the poll is.
  abbrev pub with_none : ℕ → PollStep
  with_none word =
      if array_vec_len ends == 0 then record { state = Idle; answer = Done (Polled 0 (Some word)); noted = Some (poll_note number max 0 seen) }
      else record { state = storing queues (array_vec_len ends) (Some word) ends.items; answer = More; noted = Some (poll_note number max (array_vec_len ends) seen) }

  -- a completion of none of the queues has no request, and is given with the id 0
  abbrev pub with_completion : Cqe → Option ℕ → PollStep
  with_completion c (Some queue) = record { state = LookingUp max ends c queue; answer = More; noted = None }
  with_completion c None = with_end (record { queue = 0; end = 0 }) (completion_of c 0)

  abbrev pub after_look : Step (Unit {0}) CqDone → PollStep
  after_look (Done (Took c)) = with_completion c (place_of queues c)
  after_look (Done (Empty index word)) = with_none word
  after_look _ = record { state = Polling max ends; answer = More; noted = None }

  abbrev pub after_lookup : Cqe → ℕ → Step (Unit {0}) Retired → PollStep
  after_lookup c queue (Done (Found id end)) = with_end (record { queue = queue; end = end }) (completion_of c id)
  after_lookup c queue _ = record { state = LookingUp max ends c queue; answer = More; noted = None }

abbrev pub after_retire : List SendView → ℕ → Option ℕ → List End → ℕ → ℕ → PollStep
after_retire queues taken empty left pair end = record { state = storing queues taken empty left; answer = More; noted = Some (retire_note pair end) }

abbrev pub after_ack : ℕ → ℕ → Option ℕ → ℕ → PollStep
after_ack number taken empty index = record { state = Idle; answer = Done (Polled taken empty); noted = Some (ack_note number index) }
