-- The rule of the adapter, over its own operations.
use Rattle.std.specs.Prelude.{ℕ, ◌+◌, false, Option, None}
use Rattle.bus_core.specs.declared.operation.BusEntry.{BusEntry}
use Rattle.bus_core.specs.Operation.{IsLoad}
use Rattle.verbs_types.specs.declared.declaration.Lines.{Lines}
use Rattle.cq_pair.specs.Device.{MayDeliver, seen_by}
use Rattle.counted_ring.specs.Device.{MayLook, MayRecord, MayRead}
use Rattle.counted_ring.specs.Mark as requests
use Rattle.object_places.specs.declared.ended.TheConstants.{ENDED_WORD}
use Rattle.object_places.specs.Objects.{Mark, OnCompletions, OnSends, Ends}
use Rattle.object_places.specs.Places.{completions_of, send_of}
use Rattle.device_engine.specs.Event.{AdapterEvent, fetch_said, publish_said}
use Rattle.device_engine.specs.Rows.{after_looking, after_recording, after_reading, after_publishing, read_event, publish_event, publish_mark}
use Rattle.device_engine.specs.State.{AdapterAt, AdapterRule, Looking, Recording, Reading, Publishing, Ending, reader, first_visit}

-- what its next operation is about
abbrev pub mark_at : AdapterRule → AdapterAt → Mark
mark_at s Looking = OnSends s.visit requests.Look
mark_at s Recording = OnSends s.visit (requests.Record false)
mark_at s Reading = OnSends s.visit requests.Read
mark_at s (Publishing cq completion) = OnCompletions cq (publish_mark s cq completion)
mark_at s Ending = Ends

-- an operation keeps the rule of the queue that it is on
abbrev pub MayAt : Lines → AdapterRule → AdapterAt → BusEntry → Type 0
MayAt d s Looking e = MayLook (send_of d s.visit) (reader s) e
MayAt d s Recording e = MayRecord (send_of d s.visit) (reader s) false e
MayAt d s Reading e = MayRead (send_of d s.visit) (reader s) e
MayAt d s (Publishing cq completion) e = MayDeliver (completions_of d cq) (s.queues cq) (publish_mark s cq completion) e
MayAt d s Ending e = IsLoad ENDED_WORD e

abbrev pub after_at : Lines → AdapterRule → AdapterAt → BusEntry → AdapterRule
after_at d s Looking e = after_looking d s e
after_at d s Recording e = after_recording d s e
after_at d s Reading e = after_reading d s e
after_at d s (Publishing cq completion) e = after_publishing d s cq completion e
after_at d s Ending e = first_visit d s

abbrev pub said_at : Lines → AdapterRule → AdapterAt → BusEntry → Option AdapterEvent
said_at d s Looking e = None
said_at d s Recording e = None
said_at d s Reading e = fetch_said s.visit (s.taken s.visit + 1) (read_event d s e)
said_at d s (Publishing cq completion) e = publish_said cq (s.taken s.visit) (publish_event d s cq completion e)
said_at d s Ending e = None

-- What the operation has seen of another actor: a fetch the requests up to that which it takes, a publication an acknowledged index of its queue.
abbrev pub sees_at : AdapterRule → AdapterAt → BusEntry → ℕ
sees_at s Looking e = 0
sees_at s Recording e = 0
sees_at s Reading e = s.taken s.visit + 1
sees_at s (Publishing cq completion) e = seen_by (s.queues cq) (publish_mark s cq completion) e
sees_at s Ending e = 0

-- the adapter as an automaton: the mark of its next operation, when it may be made, what it leaves, what it says, and what it has seen for that
abbrev pub adapter_mark : Lines → AdapterRule → Mark
adapter_mark d s = mark_at s s.at_work

abbrev pub MayAdapt : Lines → AdapterRule → BusEntry → Type 0
MayAdapt d s e = MayAt d s s.at_work e

abbrev pub after_adapt : Lines → AdapterRule → BusEntry → AdapterRule
after_adapt d s e = after_at d s s.at_work e

abbrev pub adapter_says : Lines → AdapterRule → BusEntry → Option AdapterEvent
adapter_says d s e = said_at d s s.at_work e

abbrev pub adapter_sees : AdapterRule → BusEntry → ℕ
adapter_sees s e = sees_at s s.at_work e
