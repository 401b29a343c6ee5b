-- What an operation does to a queue pair as the adapter keeps it.
use Rattle.std.specs.Prelude.{◌≡◌, ◌+◌, ◌^◌, ◌<◌, true, false, Option, Some, None}
use Rattle.bus_core.specs.declared.operation.BusEntry.{BusEntry}
use Rattle.counted_ring.specs.Device.{WqReader, MayLook, MayRecord, MayRead, after_look, after_record, after_read, read_says}
use Rattle.counted_ring.specs.DeviceView.{DeviceTask, Look, Record, Read}
use Rattle.counted_ring.specs.Place.{is_send, touches}
use Rattle.counted_ring.specs.Queue.{WqEvent, Took}
use Rattle.device_engine.specs.declared.pair.Pair.{Pair}
use Rattle.device_engine.specs.declared.outcome.NextWork.{NextWork}
use Rattle.device_engine.specs.declared.outcome.Outcome.{Outcome}
use Rattle.device_engine.specs.NextWork.{comes_looked, comes_recorded, told_read}

-- the pair's own counts are those of its send queue
pub record IsMatched (p : Pair) : Type 0 where
  pub send : is_send p.requests.place ≡ true
  pub stride : p.requests.place.stride ≡ 8
  pub place : p.place ≡ p.requests.place
  pub next : p.next ≡ p.requests.side.next
  pub number : p.number < 2 ^ 24

-- counts that leave room for one more
pub record IsLow (p : Pair) : Type 0 where
  pub next : p.next < 2 ^ 61
  pub taken : p.taken < 2 ^ 61

-- a load of the register or of the record can be made next
pub record CanLook (p : Pair) : Type 0 where
  pub matched : IsMatched p
  pub low : IsLow p
  pub task : p.requests.task ≡ None

-- no other task is under way than a read
abbrev pub AtRead : Option DeviceTask → Type 0
AtRead None = Unit {0}
AtRead (Some Look) = ⊥
AtRead (Some Record) = ⊥
AtRead (Some Read) = Unit {0}

-- a word of an entry can be read next
pub record CanRead (p : Pair) : Type 0 where
  pub matched : IsMatched p
  pub low : IsLow p
  pub task : AtRead p.requests.task
  pub ready : 0 < p.requests.side.ready

-- the pair whose send queue's side has gone on
abbrev pub with_side : Pair → WqReader → Option DeviceTask → Pair
with_side p side task = record p { requests = record p.requests { side = side; task = task } }

-- the pair of which a request was taken
abbrev pub with_request : Pair → WqReader → Option DeviceTask → Pair
with_request p side task = record p { requests = record p.requests { side = side; task = task }; next = side.next; taken = p.taken + 1 }

-- the pair after a word of an entry
abbrev pub pair_read : Pair → WqReader → Option DeviceTask → Option WqEvent → Pair
pair_read p side task (Some (Took words)) = with_request p side task
pair_read p side task _ = with_side p side task

-- a task is left only where the entry goes on
abbrev pub LeavesTask : Option WqEvent → Option DeviceTask → Type 0
LeavesTask None task = AtRead task
LeavesTask (Some event) task = task ≡ None

pub record Looks (old new : Pair) (e : BusEntry) (comes : NextWork) : Type 0 where
  pub may : MayLook old.requests.place old.requests.side e
  pub inside : touches old.requests.place e.addr ≡ true
  pub comes_is : comes ≡ comes_looked old.may_send old.requests.side e
  pub pair : new ≡ with_side old (after_look old.requests.side e) None

pub record Records (old new : Pair) (e : BusEntry) (comes : NextWork) : Type 0 where
  pub may : MayRecord old.requests.place old.requests.side false e
  pub inside : touches old.requests.place e.addr ≡ true
  pub comes_is : comes ≡ comes_recorded old.may_send old.requests.side e
  pub pair : new ≡ with_side old (after_record old.requests.side false e) None

abbrev pub event_of : Pair → BusEntry → Option WqEvent
event_of p e = read_says p.requests.place p.requests.side e

pub record Reads (old new : Pair) (e : BusEntry) (told : Outcome) : Type 0 where
  pub may : MayRead old.requests.place old.requests.side e
  pub inside : touches old.requests.place e.addr ≡ true
  pub told_is : told ≡ told_read old (event_of old e)
  pub task : LeavesTask (event_of old e) new.requests.task
  pub pair : new ≡ pair_read old (after_read old.requests.place old.requests.side e) new.requests.task (event_of old e)
