-- The opcode table: the number of each opcode, and what its entry carries.
use Rattle.std.specs.Prelude.{ℕ, Bool, true, false, ◌==◌, [], ◌∷◌, Option, find}
use Rattle.verbs_types.specs.declared.request.Op.{Op}
use Rattle.verbs_types.specs.declared.request.Op.TheVariants.{Nop as NopOp, Send as SendOp, SendImm as SendImmOp, Write, WriteImm, Read, Cas, Faa}
use Rattle.work_entries.specs.declared.opcode.Opcode.{Opcode}
use Rattle.work_entries.specs.declared.opcode.Opcode.TheVariants.{Nop, RdmaWrite, RdmaWriteImm, Send, SendImm, RdmaRead, AtomicCs, AtomicFa}

abbrev pub opcode_number : Opcode → ℕ
opcode_number Nop = 0x00
opcode_number RdmaWrite = 0x08
opcode_number RdmaWriteImm = 0x09
opcode_number Send = 0x0a
opcode_number SendImm = 0x0b
opcode_number RdmaRead = 0x10
opcode_number AtomicCs = 0x11
opcode_number AtomicFa = 0x12

-- the opcode that has a number, if any has it
abbrev pub opcode_from : ℕ → Option Opcode
opcode_from number =
    find (λ opcode. opcode_number opcode == number)
    (Nop ∷ RdmaWrite ∷ RdmaWriteImm ∷ Send ∷ SendImm ∷ RdmaRead ∷ AtomicCs ∷ AtomicFa ∷ [])

-- the opcode of an operation
abbrev pub opcode_of : Op → Opcode
opcode_of NopOp = Nop
opcode_of SendOp = Send
opcode_of (SendImmOp imm) = SendImm
opcode_of (Write raddr rkey) = RdmaWrite
opcode_of (WriteImm raddr rkey imm) = RdmaWriteImm
opcode_of (Read raddr rkey) = RdmaRead
opcode_of (Cas raddr rkey compare swap) = AtomicCs
opcode_of (Faa raddr rkey add) = AtomicFa

-- the units before the data: the control segment, the remote address, the operands of an atomic
abbrev pub fixed_units : Opcode → ℕ
fixed_units Nop = 1
fixed_units RdmaWrite = 2
fixed_units RdmaWriteImm = 2
fixed_units Send = 1
fixed_units SendImm = 1
fixed_units RdmaRead = 2
fixed_units AtomicCs = 3
fixed_units AtomicFa = 3

-- the most units of data
abbrev pub most_data : Opcode → ℕ
most_data Nop = 0
most_data _ = 8

-- whether the data may stand in the entry itself
abbrev pub may_inline : Opcode → Bool
may_inline Send = true
may_inline SendImm = true
may_inline RdmaWrite = true
may_inline RdmaWriteImm = true
may_inline _ = false

abbrev pub has_immediate : Opcode → Bool
has_immediate SendImm = true
has_immediate RdmaWriteImm = true
has_immediate _ = false
