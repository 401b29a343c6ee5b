-- What each kind of operation of the adapter makes of its state, a row a kind.
use Rattle.std.specs.Prelude.{ℕ, ◌==◌, ◌&&◌, nat_lt, if◌then◌else◌, Bool, List, false, Option, Some, None}
use Rattle.bus_core.specs.declared.operation.BusEntry.{BusEntry}
use Rattle.bus_core.specs.Operation.{loaded}
use Rattle.verbs_types.specs.declared.declaration.Lines.{Lines}
use Rattle.cqe_format.specs.declared.completion.Cqe.{Cqe}
use Rattle.cq_pair.specs.Device.{after_deliver, delivered}
use Rattle.cq_pair.specs.DeviceView.{mark_of}
use Rattle.cq_pair.specs.Mark.{QueueMark}
use Rattle.cq_pair.specs.Queue.{QueueEvent}
use Rattle.counted_ring.specs.Device.{WqReader, after_look, after_record, after_read, read_says}
use Rattle.counted_ring.specs.Queue.{WqEvent, Took}
use Rattle.object_places.specs.Places.{completions_of, send_of}
use Rattle.device_engine.specs.Entry.{wants, nop_cqe}
use Rattle.device_engine.specs.State.{AdapterRule, Publishing, Reading, Recording, reader, may_send, send_cq, next_visit, working, with_reader, with_taken, with_queue}

-- an entry of a pair that may send was shown and not taken
abbrev pub is_ready : Lines → ℕ → WqReader → Bool
is_ready d qp r = may_send d qp && nat_lt 0 r.ready

-- a visit goes on with the next entry where one is ready, and else it is over
abbrev pub read_or_next : Lines → WqReader → AdapterRule → AdapterRule
read_or_next d r s = if is_ready d s.visit r then working Reading s else next_visit d s

-- Look: a register that is another one than the last asks for the record

abbrev pub after_looking : Lines → AdapterRule → BusEntry → AdapterRule
after_looking d s e =
    if loaded e == (reader s).register then read_or_next d (reader s) (with_reader (after_look (reader s) e) s)
    else working Recording (with_reader (after_look (reader s) e) s)

-- Record: how many blocks the record shows

abbrev pub recorded : AdapterRule → BusEntry → WqReader
recorded s e = after_record (reader s) false e

abbrev pub after_recording : Lines → AdapterRule → BusEntry → AdapterRule
after_recording d s e = read_or_next d (recorded s e) (with_reader (recorded s e) s)

-- Read: with its last word the request is taken, and where it wants a completion that is published

abbrev pub publish_or_next : Lines → ℕ → List ℕ → AdapterRule → AdapterRule
publish_or_next d index words s = if wants words then working (Publishing (send_cq d s.visit) (nop_cqe s.visit index)) s else next_visit d s

abbrev pub fetched : Lines → ℕ → Option WqEvent → AdapterRule → AdapterRule
fetched d index (Some (Took words)) s = publish_or_next d index words (with_taken s)
fetched d index _ s = s

abbrev pub read_event : Lines → AdapterRule → BusEntry → Option WqEvent
read_event d s e = read_says (send_of d s.visit) (reader s) e

abbrev pub after_reading : Lines → AdapterRule → BusEntry → AdapterRule
after_reading d s e = fetched d (reader s).next (read_event d s e) (with_reader (after_read (send_of d s.visit) (reader s) e) s)

-- Publish: whatever a publication comes to, the visit is over with it

abbrev pub publish_mark : AdapterRule → ℕ → Cqe → QueueMark
publish_mark s cq completion = mark_of (Some completion) (s.queues cq).overrun

abbrev pub publish_event : Lines → AdapterRule → ℕ → Cqe → BusEntry → Option QueueEvent
publish_event d s cq completion e = delivered (completions_of d cq) (s.queues cq) (publish_mark s cq completion) e

abbrev pub published : Lines → Option QueueEvent → AdapterRule → AdapterRule
published d None s = s
published d (Some event) s = next_visit d s

abbrev pub after_publishing : Lines → AdapterRule → ℕ → Cqe → BusEntry → AdapterRule
after_publishing d s cq completion e =
    published d (publish_event d s cq completion e) (with_queue cq (after_deliver (completions_of d cq) (s.queues cq) (publish_mark s cq completion) e) s)
