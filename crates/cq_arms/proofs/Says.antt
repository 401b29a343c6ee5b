-- Where the operations of the three sides are, and which events each can say.
use Rattle.std.proofs.Common.{◌≡◌, refl, true, eqb, Option, Some, None}
use Rattle.std.proofs.lemmas.Bool.{cond_both}
use Rattle.bus_core.specs.declared.operation.BusEntry.{BusEntry}
use Rattle.bus_core.specs.Operation.{loaded}
use Rattle.cq_arms.specs.declared.place.ArmPlace.{ArmPlace}
use Rattle.cq_arms.specs.Place.{touches}
use Rattle.cq_arms.specs.Words.{shown}
use Rattle.cq_arms.specs.Arms.{ArmEvent, Armed, Saw, NoNews, Published, Resized, Acked, Wrote, Raised}
use Rattle.cq_arms.specs.Mark.{ArmMark, LoadNumber, StoreRecord, StoreRegister, Raise, See, Publish, Resize, Write, Acknowledge}
use Rattle.cq_arms.specs.Armer.{Armer, Stage, Ready, Numbered, Recorded, MayArm, arm_says, register_says}
use Rattle.cq_arms.specs.Reader.{Reader, MayRaise, raise_says}
use Rattle.cq_arms.specs.Device.{Device, MayServe, judged, notice, saw, served}
use Rattle.cq_arms.specs.Law.{beside_says}
use Rattle.cq_arms.proofs.Registers.{touches_record, touches_register, touches_sn}

abbrev IsInside : ArmPlace → BusEntry → Type 0
IsInside place e = touches place e.addr ≡ true

record_inside : (place : ArmPlace) (a : Armer) (stage : Stage) (mark : ArmMark) (e : BusEntry) → a.stage ≡ stage → MayArm place (record { last = a.last; stage = stage }) mark e → IsInside place e
record_inside place a stage LoadNumber e is may = rw may.at_address (touches_sn place)
record_inside place a (Numbered number) (StoreRecord kind index) e is may = rw may.at_address (touches_record place)
record_inside place a (Recorded arm) StoreRegister e is may = rw may.at_address (touches_register place)
record_inside place a _ _ e is may = absurd may

pub armer_inside : (place : ArmPlace) (a : Armer) (mark : ArmMark) (e : BusEntry) → MayArm place a mark e → touches place e.addr ≡ true
armer_inside place a mark e may = record_inside place a a.stage mark e refl may

pub reader_inside : (place : ArmPlace) (r : Reader) (mark : ArmMark) (e : BusEntry) → MayRaise place r mark e → touches place e.addr ≡ true
reader_inside place r Raise e may = rw may.at_address (touches_sn place)
reader_inside place r _ e may = absurd may

-- of the adapter's operations only the load of the register is one on the words of arms
pub see_inside : (place : ArmPlace) (d : Device) (e : BusEntry) → MayServe place d See e → touches place e.addr ≡ true
see_inside place d e may = rw may.1.at_address (touches_register place)

-- what an armer can say
abbrev pub IsArming : Option ArmEvent → Type 0
IsArming None = Unit {0}
IsArming (Some (Armed arm)) = Unit {0}
IsArming (Some _) = ⊥

register_arms : (stage : Stage) → IsArming (register_says stage)
register_arms Ready = tt
register_arms (Numbered number) = tt
register_arms (Recorded arm) = tt

pub armer_says : (a : Armer) (mark : ArmMark) → IsArming (arm_says a mark)
armer_says a StoreRegister = register_arms a.stage
armer_says a _ = tt

-- what an event reader can say
abbrev pub IsRaising : Option ArmEvent → Type 0
IsRaising None = Unit {0}
IsRaising (Some (Raised number)) = Unit {0}
IsRaising (Some _) = ⊥

pub reader_says : (r : Reader) (mark : ArmMark) → IsRaising (raise_says r mark)
reader_says r Raise = tt
reader_says r _ = tt

-- what an adapter can say
abbrev pub IsServing : Option ArmEvent → Type 0
IsServing None = Unit {0}
IsServing (Some (Saw kind index sn due)) = Unit {0}
IsServing (Some NoNews) = Unit {0}
IsServing (Some (Published solicited due)) = Unit {0}
IsServing (Some Resized) = Unit {0}
IsServing (Some Wrote) = Unit {0}
IsServing (Some _) = ⊥

pub device_says : (d : Device) (mark : ArmMark) (e : BusEntry) → IsServing (served d mark e)
device_says d See e = cond_both (eqb (loaded e) d.register) NoNews (saw (shown d.index (loaded e)) (judged (notice d (shown d.index (loaded e)) (loaded e))).due) (λ (x : ArmEvent). IsServing (Some x)) (λ t. tt) (λ t. tt)
device_says d (Publish solicited) e = tt
device_says d Resize e = tt
device_says d Write e = tt
device_says d _ e = tt

-- what is said beside
abbrev pub IsBeside : Option ArmEvent → Type 0
IsBeside None = Unit {0}
IsBeside (Some (Acked ci)) = Unit {0}
IsBeside (Some _) = ⊥

pub beside_tells : (mark : ArmMark) → IsBeside (beside_says mark)
beside_tells (Acknowledge ci) = tt
beside_tells _ = tt
