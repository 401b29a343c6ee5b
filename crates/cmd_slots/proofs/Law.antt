-- The law of the command slots.
use Rattle.std.proofs.Common.{ℕ, refl, List, Option, Some, None}
use Rattle.bus_core.specs.declared.operation.BusEntry.{BusEntry}
use Rattle.bus_core.specs.Mark.{Marked}
use Rattle.bus_core.specs.Trace.{Memory, after_entry, Tells}
use Rattle.bus_core.specs.TwoSides.{IsRunOf}
use Rattle.bus_core.proofs.TwoSided.{Advances, law_of}
use Rattle.cmd_slots.specs.Slot.{Slot, SlotEvent, all_free, IsLegal}
use Rattle.cmd_slots.specs.Mark.{SlotMark, host_of}
use Rattle.cmd_slots.specs.Host.{Asker}
use Rattle.cmd_slots.specs.Device.{Adapter}
use Rattle.cmd_slots.specs.Law.{MayAny, after_any, any_says, slots_object, fresh_host, fresh_adapter, IsStart, IsRun, history}
use Rattle.cmd_slots.proofs.Tied.{Tied, Tied_kept, Goes}
use Rattle.cmd_slots.proofs.HostStep.{host_step}
use Rattle.cmd_slots.proofs.DeviceStep.{device_step}
use Rattle.cmd_slots.proofs.Hosts.{run_of_hosts}

advances : (m : Memory) (d : Adapter) (hosts : ℕ → Asker) (slots : ℕ → Slot) (said : Option SlotEvent) → Goes m d hosts slots said → Advances slots_object Tied m d hosts slots said
advances m d hosts slots None g = g
advances m d hosts slots (Some event) g = g

pub any_step : (m : Memory) (d : Adapter) (hosts : ℕ → Asker) (slots : ℕ → Slot) (slot : Option ℕ) (mark : SlotMark) (e : BusEntry) → Tied m d hosts slots → Tells m e → MayAny hosts slot mark e →
    Goes (after_entry m e) d (after_any hosts slot mark e) slots (any_says hosts slot mark e)
any_step m d hosts slots None mark e t tells may = absurd may
any_step m d hosts slots (Some slot) mark e t tells may = host_step m d hosts slots slot mark e t tells may

-- at the start all slots are free
pub start_tied : (start : Memory) → IsStart start → Tied start fresh_adapter (λ (slot : ℕ). fresh_host) all_free
start_tied start s = record { each = λ slot ok. record { asked_is = refl; answered_is = refl; silent = refl; clear = s slot ok; host = tt; server = refl } }

-- of a run whose hosts are one side
pub sides_are_legal : (start : Memory) (trace : List (Marked SlotMark)) → IsStart start → IsRunOf slots_object fresh_adapter (λ (slot : ℕ). fresh_host) start trace → IsLegal all_free (history trace)
sides_are_legal start trace begins run =
    law_of slots_object Tied (λ m m' d hosts slots same t. Tied_kept m m' d hosts slots same t)
    (λ m d hosts slots x t tells may. advances _ _ hosts slots _ (device_step m d hosts slots x.mark x.entry t tells may))
    (λ m d hosts slots x t tells may. advances _ d _ slots _ (any_step m d hosts slots (host_of x.mark) x.mark x.entry t tells may))
    trace start fresh_adapter (λ (slot : ℕ). fresh_host) all_free (start_tied start begins) run

pub run_is_legal : (start : Memory) (trace : List (Marked SlotMark)) → IsRun start trace → IsLegal all_free (history trace)
run_is_legal start trace r = sides_are_legal start trace r.start_ok (run_of_hosts start trace r)
