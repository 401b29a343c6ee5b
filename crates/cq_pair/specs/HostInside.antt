-- How the fields of a queue's host are seen.
use Rattle.std.specs.Prelude.{◌≡◌, Option, Some, None}
use Rattle.bus_core.specs.declared.turn.Step.{Step}
use Rattle.bus_core.specs.declared.turn.Step.TheVariants.{More, Gave, Done}
use Rattle.cqe_format.specs.declared.completion.Cqe.{Cqe}
use Rattle.owner_ring.specs.declared.consumer.Taken.{Taken}
use Rattle.owner_ring.specs.declared.consumer.Taken.TheVariants as ring_answers
use Rattle.owner_ring.specs.Place.{IsPlace}
use Rattle.owner_ring.specs.ConsumerView as ring_side
use Rattle.cq_pair.specs.declared.place.CqPlace.{CqPlace}
use Rattle.cq_pair.specs.declared.host.CqDone.{CqDone}
use Rattle.cq_pair.specs.declared.host.CqDone.TheVariants as answers
use Rattle.cq_pair.specs.declared.host.CqHost.TheInside.{Inside}
use Rattle.cq_pair.specs.Place.{ring_of}
use Rattle.cq_pair.specs.Host.{IsReadAs}
use Rattle.cq_pair.specs.HostView.{HostView, HostTask, PollOne, Acknowledgement}

abbrev pub host_task : Option ring_side.Task → Option HostTask
host_task None = None
host_task (Some ring_side.Take) = Some PollOne
host_task (Some (ring_side.Acknowledgement above)) = Some Acknowledgement

-- a host with such a consumer
abbrev pub host_with : CqPlace → ring_side.ConsumerView → HostView
host_with place ring = record { place = place; side = ring.side; task = host_task ring.task; seen = ring.seen }

abbrev pub host_view : Inside → HostView
host_view a = host_with a.place a.ring

pub record IsHost (a : Inside) : Type 0 where
  pub place_ok : IsPlace (ring_of a.place)
  pub ring_is : a.ring.place ≡ ring_of a.place

-- the queue's answer to the ring's
abbrev pub IsAnswerTo : Step (Unit {0}) Taken → Step (Unit {0}) CqDone → Type 0
IsAnswerTo More answer = answer ≡ More
IsAnswerTo (Gave part) answer = answer ≡ More
IsAnswerTo (Done (ring_answers.Entry index words)) answer = (completion : Cqe) × IsReadAs words completion × (answer ≡ Done (answers.Took completion))
IsAnswerTo (Done (ring_answers.Empty index word)) answer = answer ≡ Done (answers.Empty index word)
IsAnswerTo (Done (ring_answers.Acked ci)) answer = answer ≡ Done (answers.Acked ci)
