-- A run that meets all that the law asks: four completions are published, three are polled, and the queue is armed, twice. It has one event.
use Rattle.std.proofs.Common.{rules, ◌≡◌, ℕ, refl, true, false, eqb, cond, List, [], ◌∷◌, Some, None}
use Rattle.verbs_types.specs.declared.completion.ArmKind.TheVariants.{Any}
use Rattle.bus_core.specs.declared.operation.BusOp.TheVariants.{Load, Store}
use Rattle.bus_core.specs.Mark.{Marked}
use Rattle.bus_core.specs.Trace.{Memory}
use Rattle.cq_arms.specs.declared.place.ArmPlace.{ArmPlace}
use Rattle.cq_arms.specs.declared.arm_word.Arm.{Arm}
use Rattle.cq_arms.specs.Words.{no_arm}
use Rattle.cq_arms.specs.Arms.{Armed, Saw, NoNews, Published, Acked, Wrote}
use Rattle.cq_arms.specs.Mark.{ArmMark, LoadNumber, StoreRecord, StoreRegister, See, Publish, Write, Acknowledge}
use Rattle.cq_arms.specs.Law.{IsRun, history}

abbrev place : ArmPlace
place = record { number = 7; arm_record = 1; arm_reg = 2; sn = 3 }

abbrev load : ℕ → ℕ → ℕ → ArmMark → Marked ArmMark
load actor address word mark = record { entry = record { actor = actor; addr = address; op = Load; old = Some word }; mark = mark }

abbrev store : ℕ → ℕ → ℕ → ArmMark → Marked ArmMark
store actor address word mark = record { entry = record { actor = actor; addr = address; op = Store word; old = None }; mark = mark }

abbrev start : Memory
start a = cond (eqb a 2) no_arm 0

abbrev trace : List (Marked ArmMark)
trace =
    store 0 100 0 (Publish false) ∷ store 0 100 0 (Publish false) ∷ store 0 100 0 (Publish false) ∷ store 0 100 0 (Publish false)
    ∷ store 1 0 3 (Acknowledge 3)
    ∷ load 1 3 0 LoadNumber ∷ store 1 1 3 (StoreRecord Any 3) ∷ store 1 2 0x300000007 StoreRegister
    ∷ load 0 2 0x300000007 See ∷ store 0 200 0 Write
    ∷ load 1 3 0 LoadNumber ∷ store 1 1 3 (StoreRecord Any 3) ∷ store 1 2 0x300000007 StoreRegister
    ∷ load 0 2 0x300000007 See ∷ []

abbrev arm : Arm
arm = record { kind = Any; index = 3; number = 0 }

pub said : history 0 trace ≡ Published false false ∷ Published false false ∷ Published false false ∷ Published false false ∷ Acked 3 ∷ Armed arm ∷ Saw Any 3 0 true ∷ Wrote ∷ Armed arm ∷ NoNews ∷ []
said = refl

pub is_run : IsRun place 0 start trace
is_run = search rules
