-- An event queue as an object of two sides, and the traces that the law speaks of.
use Rattle.std.specs.Prelude.{◌≡◌, ◌+◌, ◌<◌, List, []}
use Rattle.bus_core.specs.Mark.{Marked}
use Rattle.bus_core.specs.Trace.{Memory}
use Rattle.bus_core.specs.TwoSides as two
use Rattle.bus_core.specs.TwoSides.{Party, Device, Host, Bystander, Object, Sides, IsRunOf}
use Rattle.owner_ring.specs.Place.{size, touches, IsPlace}
use Rattle.owner_ring.specs.Law.{IsStart}
use Rattle.eq_pair.specs.declared.place.EqPlace.{EqPlace}
use Rattle.eq_pair.specs.Place.{ring_of}
use Rattle.eq_pair.specs.Mark.{EqMark, role_of}
use Rattle.eq_pair.specs.Queue.{EventList, EqEvent, MayHappen, after_event}
use Rattle.eq_pair.specs.Device.{EventWriter, MayWrite, after_write, writes}
use Rattle.eq_pair.specs.Host.{EventTaker, Waiting, next_index, MayTake, after_take, takes}
use Rattle.eq_pair.specs.Agree.{Agree}

abbrev pub eq_object : EqPlace → Object (Marked EqMark) EventWriter EventTaker EventList EqEvent
eq_object place = record {
  entry = λ x. x.entry;
  role = λ x. role_of x.mark;
  touches = touches (ring_of place);
  may_device = λ d x. MayWrite place d x.mark x.entry;
  after_device = λ d x. after_write d x.mark x.entry;
  device_says = λ d x. writes d x.mark;
  may_host = λ h x. MayTake place h x.mark x.entry;
  after_host = λ h x. after_take place h x.mark x.entry;
  host_says = λ h x. takes place h x.mark x.entry;
  may = MayHappen (size (ring_of place));
  after = after_event;
}

-- the sides before their first operation
abbrev pub fresh_writer : EventWriter
fresh_writer = record { index = 0; words = [] }

abbrev pub fresh_taker : EventTaker
fresh_taker = Waiting 0

abbrev pub fresh_sides : Sides EventWriter EventTaker
fresh_sides = record { device = fresh_writer; host = fresh_taker }

-- An event is begun only while fewer events than the queue has entries are untaken, where an event counts as taken once the register shows it. The device does not load the register for that: it knows of the room by other means.
abbrev pub HasRoom : EqPlace → EventWriter → EventTaker → Type 0
HasRoom place d h = d.words ≡ [] → d.index < next_index h + size (ring_of place)

abbrev pub agrees_by : EqPlace → Party → Sides EventWriter EventTaker → Marked EqMark → Type 0
agrees_by place Device s x = HasRoom place s.device s.host
agrees_by place Host s x = Unit {0}
agrees_by place Bystander s x = Unit {0}

-- a consistent trace of a queue whose two sides keep their rules and whose device has room, while nobody else writes its words
pub record IsRun (place : EqPlace) (start : Memory) (trace : List (Marked EqMark)) : Type 0 where
  pub place_ok : IsPlace (ring_of place)
  pub start_ok : IsStart (ring_of place) 0 start
  pub run : IsRunOf (eq_object place) fresh_writer fresh_taker start trace
  pub room : Agree (eq_object place) (agrees_by place) fresh_sides trace

-- what the marked operations of a trace say, in order
abbrev pub history : EqPlace → List (Marked EqMark) → List EqEvent
history place trace = two.history (eq_object place) fresh_writer fresh_taker trace
