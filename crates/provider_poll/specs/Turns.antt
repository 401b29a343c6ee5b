-- The four kinds of operations of a poll.
use Rattle.std.specs.Prelude.{ℕ, ◌≡◌, List, map, All, slice_set, slice_get, Option, Some, None}
use Rattle.arrayvec.specs.ArrayVec.{ArrayVec}
use Rattle.bus_core.specs.declared.operation.BusEntry.{BusEntry}
use Rattle.bus_core.specs.declared.turn.Step.{Step}
use Rattle.bus_core.specs.declared.turn.Step.TheVariants.{Done}
use Rattle.bus_core.specs.Port.{Port, HasRoom}
use Rattle.cqe_format.specs.declared.completion.Cqe.{Cqe}
use Rattle.cq_pair.specs.declared.host.CqDone.{CqDone}
use Rattle.cq_pair.specs.declared.host.CqDone.TheVariants.{Acked}
use Rattle.cq_pair.specs.HostView.{HostView, HostTask, HostTurn, PollOne, Acknowledgement}
use Rattle.counted_ring.specs.declared.place.WqPlace.{WqPlace}
use Rattle.counted_ring.specs.declared.retirer.Retired.{Retired}
use Rattle.counted_ring.specs.RetirerView.{RetirerView}
use Rattle.object_places.specs.Places.{IsWithin}
use Rattle.provider_poll.specs.declared.state.End.{End}
use Rattle.provider_poll.specs.declared.poll_step.PollStep.{PollStep}
use Rattle.provider_poll.specs.SendQueue.{SendView, SendTurn, asking, retiring}
use Rattle.provider_poll.specs.PollStep.{after_look, after_lookup, after_retire, after_ack}

-- where send queues lie
abbrev pub places : List SendView → List WqPlace
places queues = map (λ (q : SendView). q.place) queues

-- a port through which each of these queues can be served
pub record CanServeEach {Bus : Type 0} (queues : List SendView) (port : Port Bus) : Type 0 where
  pub room : HasRoom port.room
  pub words : All (IsWithin port.words) (places queues)

-- idle, or in a poll
abbrev pub IsPollingHost : Option HostTask → Type 0
IsPollingHost None = Unit {0}
IsPollingHost (Some PollOne) = Unit {0}
IsPollingHost (Some Acknowledgement) = ⊥

-- a host at this task
abbrev pub working : HostTask → HostView → HostView
working task h = record h { task = Some task }

-- the host looks at the next entry, or reads it
pub record Looks (number : ℕ) (old new : HostView) (queues : List SendView) (max : ℕ) (ends : ArrayVec End) (e : BusEntry) (turned : PollStep) : Type 0 where
  pub step : Step (Unit {0}) CqDone
  pub host_turn : HostTurn (working PollOne old) new e step
  pub turned_is : turned ≡ after_look number queues max ends new.seen step

-- a queue's operation, which leaves the others as they are
pub record InQueue (old new : List SendView) (queue : ℕ) (before after : SendView) : Type 0 where
  pub found : slice_get old queue ≡ Some before
  pub queues : new ≡ slice_set old queue after

-- the queue of this place goes on at its work
pub record TurnsOne (old new : List SendView) (queue : ℕ) (work : SendView → RetirerView) (e : BusEntry) (step : Step (Unit {0}) Retired) : Type 0 where
  pub before : SendView
  pub after : SendView
  pub within : InQueue old new queue before after
  pub queue_turn : SendTurn before after (work before) e step

-- an end is stored in its queue, which is that of this queue pair
pub record StoresOne (old new : List SendView) (end : End) (e : BusEntry) (pair : ℕ) : Type 0 where
  pub step : Step (Unit {0}) Retired
  pub turns : TurnsOne old new end.queue (retiring end.end) e step
  pub pair_is : pair ≡ turns.before.number

-- the lookup of the completion goes on, in its queue
pub record LooksUp (number seen : ℕ) (old new : List SendView) (max : ℕ) (ends : ArrayVec End) (c : Cqe) (queue : ℕ) (e : BusEntry) (turned : PollStep) : Type 0 where
  pub before : SendView
  pub after : SendView
  pub within : InQueue old new queue before after
  pub step : Step (Unit {0}) Retired
  pub queue_turn : SendTurn before after (asking c.counter before) e step
  pub turned_is : turned ≡ after_lookup number new max ends seen c queue step

-- the first end is stored, in its queue
pub record Retires (old new : List SendView) (taken : ℕ) (empty : Option ℕ) (first : End) (left : List End) (e : BusEntry) (turned : PollStep) : Type 0 where
  pub before : SendView
  pub after : SendView
  pub within : InQueue old new first.queue before after
  pub step : Step (Unit {0}) Retired
  pub queue_turn : SendTurn before after (retiring first.end before) e step
  pub turned_is : turned ≡ after_retire new taken empty left before.number first.end

abbrev pub acked_index : Step (Unit {0}) CqDone → ℕ
acked_index (Done (Acked ci)) = ci
acked_index _ = 0

-- the consumer index is stored
pub record Acknowledges (number : ℕ) (old new : HostView) (taken : ℕ) (empty : Option ℕ) (e : BusEntry) (turned : PollStep) : Type 0 where
  pub step : Step (Unit {0}) CqDone
  pub host_turn : HostTurn (working Acknowledgement old) new e step
  pub turned_is : turned ≡ after_ack number taken empty (acked_index step)
