-- The command slots as one object of two sides, of which the host's has a host for each slot, and the traces that the law speaks of.
use Rattle.std.specs.Prelude.{ℕ, ◌≡◌, ◌==◌, ◌&&◌, List, [], filter, Bool, false, Option, Some, None}
use Rattle.std.specs.Int.{bit_at}
use Rattle.std.specs.List.{AllByRecursion}
use Rattle.bus_core.specs.declared.operation.BusEntry.{BusEntry}
use Rattle.bus_core.specs.Follow.{Follows}
use Rattle.bus_core.specs.Mark.{Marked, entries}
use Rattle.bus_core.specs.Trace.{Memory, IsConsistent}
use Rattle.bus_core.specs.TwoSides as two
use Rattle.bus_core.specs.TwoSides.{Object, Party, Device, is_party, IsHarmless}
use Rattle.cmd_slots.specs.Place.{IsSlot, bits_word, touches}
use Rattle.cmd_slots.specs.Family.{put}
use Rattle.cmd_slots.specs.Slot.{Slot, SlotEvent, MayHappen, after_event}
use Rattle.cmd_slots.specs.Mark.{SlotMark, role_of, host_of}
use Rattle.cmd_slots.specs.Host.{Asker, Resting, MayHost, after_host, host_says}
use Rattle.cmd_slots.specs.Device.{Adapter, Server, Reading, MayDeliver, after_deliver, delivered}

-- the rule of an operation of some slot's host, the hosts after it, and what it says
abbrev pub MayAny : (ℕ → Asker) → Option ℕ → SlotMark → BusEntry → Type 0
MayAny hosts None mark e = ⊥
MayAny hosts (Some slot) mark e = MayHost slot (hosts slot) mark e

abbrev pub after_any : (ℕ → Asker) → Option ℕ → SlotMark → BusEntry → ℕ → Asker
after_any hosts None mark e = hosts
after_any hosts (Some slot) mark e = put hosts slot (after_host (hosts slot) mark e)

abbrev pub any_says : (ℕ → Asker) → Option ℕ → SlotMark → BusEntry → Option SlotEvent
any_says hosts None mark e = None
any_says hosts (Some slot) mark e = host_says slot (hosts slot) mark e

abbrev pub slots_object : Object (Marked SlotMark) Adapter (ℕ → Asker) (ℕ → Slot) SlotEvent
slots_object = record {
  entry = λ x. x.entry;
  role = λ x. role_of x.mark;
  touches = touches;
  may_device = λ d x. MayDeliver d x.mark x.entry;
  after_device = λ d x. after_deliver d x.mark x.entry;
  device_says = λ d x. delivered d x.mark x.entry;
  may_host = λ hosts x. MayAny hosts (host_of x.mark) x.mark x.entry;
  after_host = λ hosts x. after_any hosts (host_of x.mark) x.mark x.entry;
  host_says = λ hosts x. any_says hosts (host_of x.mark) x.mark x.entry;
  may = MayHappen;
  after = after_event;
}

-- the sides before their first operation
abbrev pub fresh_host : Asker
fresh_host = record { asked = 0; stage = Resting }

abbrev pub fresh_server : Server
fresh_server = record { answered = 0; stage = Reading [] }

abbrev pub fresh_adapter : Adapter
fresh_adapter = record { found = λ slot. false; servers = λ slot. fresh_server }

-- the slots' words before the first command: no bit is set
abbrev pub IsStart : Memory → Type 0
IsStart start = (slot : ℕ) → IsSlot slot → bit_at (start bits_word) slot ≡ 0

-- what the marked operations of a trace say, in order
abbrev pub history : List (Marked SlotMark) → List SlotEvent
history trace = two.history slots_object fresh_adapter (λ slot. fresh_host) trace

-- the operations of one slot's host on the slots' words, in order, and those of the device
abbrev pub is_host : ℕ → Option ℕ → Bool
is_host slot None = false
is_host slot (Some other) = other == slot

abbrev pub of_host : ℕ → List (Marked SlotMark) → List (Marked SlotMark)
of_host slot trace = filter (λ x. touches x.entry.addr && is_host slot (host_of x.mark)) trace

abbrev pub of_device : List (Marked SlotMark) → List (Marked SlotMark)
of_device trace = two.side slots_object Device trace

-- A consistent trace of the slots in which the host of each slot and the device keep their rules, each over its own operations, while nobody else writes the slots' words.
pub record IsRun (start : Memory) (trace : List (Marked SlotMark)) : Type 0 where
  pub start_ok : IsStart start
  pub consistent : IsConsistent start (entries trace)
  pub hosts : (slot : ℕ) → Follows (λ (h : Asker) (x : Marked SlotMark). MayHost slot h x.mark x.entry) (λ (h : Asker) (x : Marked SlotMark). after_host h x.mark x.entry) fresh_host (of_host slot trace)
  pub device : Follows (λ (d : Adapter) (x : Marked SlotMark). MayDeliver d x.mark x.entry) (λ (d : Adapter) (x : Marked SlotMark). after_deliver d x.mark x.entry) fresh_adapter (of_device trace)
  pub others : AllByRecursion (IsHarmless slots_object) trace
