-- What the device's side has seen of the acknowledged index, along a run.
use Rattle.std.specs.Prelude.{ℕ, ◌-◌, ◌<◌, ◌≤◌, List, Option, Some, None}
use Rattle.bus_core.specs.Follow.{Follows}
use Rattle.bus_core.specs.Mark.{Marked}
use Rattle.bus_core.specs.TwoSides.{Sides, after_any, any_says}
use Rattle.owner_ring.specs.Place.{size}
use Rattle.owner_ring.specs.Consumer.{Consumer}
use Rattle.cq_pair.specs.declared.place.CqPlace.{CqPlace}
use Rattle.cq_pair.specs.Place.{ring_of}
use Rattle.cq_pair.specs.Mark.{QueueMark}
use Rattle.cq_pair.specs.Queue.{PlainQueue, QueueEvent, Published, empty_queue, produced, after_event}
use Rattle.cq_pair.specs.Device.{QueueDevice}
use Rattle.cq_pair.specs.Law.{queue_object, fresh_device, fresh_host}

-- what was seen was acknowledged, and leaves room for one more completion
pub record LeavesOne (size : ℕ) (q : PlainQueue) (seen : ℕ) : Type 0 where
  pub least : seen ≤ q.acked
  pub enough : produced q - seen < size

-- What was seen serves for what an operation says of a list. It may be old, since the acknowledged index only rises; but where a completion is published it leaves room.
abbrev pub SeenServes : ℕ → PlainQueue → ℕ → Option QueueEvent → Type 0
SeenServes size q seen (Some (Published index completion)) = LeavesOne size q seen
SeenServes size q seen _ = seen ≤ q.acked

-- the sides and the list before an operation of a run
pub record RunState : Type 0 where
  pub sides : Sides QueueDevice Consumer
  pub queue : PlainQueue

abbrev pub first_state : ℕ → RunState
first_state index = record { sides = record { device = fresh_device index; host = fresh_host index }; queue = empty_queue index }

abbrev pub after_said : PlainQueue → Option QueueEvent → PlainQueue
after_said q None = q
after_said q (Some event) = after_event q event

abbrev pub next_state : CqPlace → RunState → Marked QueueMark → RunState
next_state place s x = record { sides = after_any (queue_object place) s.sides x; queue = after_said s.queue (any_says (queue_object place) s.sides x) }

-- the device's side has seen enough for what the operation says
abbrev pub HasSeen : CqPlace → RunState → Marked QueueMark → Type 0
HasSeen place s x = SeenServes (size (ring_of place)) s.queue (after_any (queue_object place) s.sides x).device.seen (any_says (queue_object place) s.sides x)

-- and so at every operation of a trace
abbrev pub SeesEnough : CqPlace → ℕ → List (Marked QueueMark) → Type 0
SeesEnough place index trace = Follows (HasSeen place) (next_state place) (first_state index) trace
