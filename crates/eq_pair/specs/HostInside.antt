-- How the fields of a queue's host are seen.
use Rattle.std.specs.Prelude.{◌≡◌, ◌*◌, ◌^◌, ◌<◌, Option, Some, None, is_some}
use Rattle.verbs_types.specs.declared.completion.EventRecord.{EventRecord}
use Rattle.owner_ring.specs.Place.{IsPlace}
use Rattle.owner_ring.specs.Consumer as ring_side
use Rattle.owner_ring.specs.Consumer.{Consumer, acked_index}
use Rattle.owner_ring.specs.ConsumerView as ring_view
use Rattle.owner_ring.specs.ConsumerView.{ConsumerView, Task}
use Rattle.eq_pair.specs.declared.place.EqPlace.{EqPlace}
use Rattle.eq_pair.specs.declared.host.EqHost.TheInside.{Inside}
use Rattle.eq_pair.specs.Place.{ring_of}
use Rattle.eq_pair.specs.Host.{EventTaker, Waiting, Reading, Holding, consumer_of}
use Rattle.eq_pair.specs.HostView.{HostView}

-- a host that holds such an event, with such a consumer
abbrev pub taker_of : Option EventRecord → Consumer → EventTaker
taker_of (Some event) ring = Holding (acked_index ring) event
taker_of None (ring_side.Waiting acked next) = Waiting acked
taker_of None (ring_side.Reading acked next index last words) = Reading index last words

abbrev pub host_with : EqPlace → Option EventRecord → ConsumerView → HostView
host_with place event ring = record { place = place; side = taker_of event ring.side; taking = is_some ring.task; seen = ring.seen }

abbrev pub host_view : Inside → HostView
host_view a = host_with a.place a.event a.ring

-- the ring stores the register while an event is held, and takes an entry else
abbrev pub IsTask : EqPlace → Option EventRecord → Option Task → Type 0
IsTask place (Some event) task = task ≡ Some (ring_view.Acknowledgement (place.number * 2 ^ 24))
IsTask place None None = Unit {0}
IsTask place None (Some ring_view.Take) = Unit {0}
IsTask place None (Some (ring_view.Acknowledgement above)) = ⊥

pub record IsHost (a : Inside) : Type 0 where
  pub place_ok : IsPlace (ring_of a.place)
  pub number : a.place.number < 2 ^ 8
  pub ring_is : a.ring.place ≡ ring_of a.place
  pub side_is : a.ring.side ≡ consumer_of (taker_of a.event a.ring.side)
  pub task_is : IsTask a.place a.event a.ring.task
