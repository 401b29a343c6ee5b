-- The table of commands.
use Rattle.std.specs.Prelude.{ℕ, ◌+◌, ◌*◌, Bool, true, false, ◌==◌, Option, List, [], ◌∷◌, find}
use Rattle.cmd_bodies.specs.declared.kind.Kind.{Kind}
use Rattle.cmd_bodies.specs.declared.kind.Kind.TheVariants.{EnableHca, DisableHca, InitHca, TeardownHca, QueryBootPages, QueryInitPages, GivePages, ReturnPages, AllocPd, DeallocPd, AllocUar, DeallocUar, CreateMkey, DestroyMkey, CreateEq, DestroyEq, CreateCq, DestroyCq, ModifyCq, CreateSrq, DestroySrq, CreateQp, DestroyQp, RstToInit, InitToRtr, RtrToRts, ToErr}
use Rattle.cmd_bodies.specs.declared.kind.CommandRow.{CommandRow}

-- opcode and modifier, input and output length, and whether the input has a number and a second number
abbrev pub row_of : ℕ → ℕ → ℕ → ℕ → Bool → Bool → CommandRow
row_of opcode modifier in_len out_len has_number has_second =
    record { code = opcode * 65536 + modifier; in_len = in_len; out_len = out_len; has_number = has_number; has_second = has_second }

abbrev pub command_row : Kind → CommandRow
command_row EnableHca = row_of 0x104 0 16 12 false false
command_row DisableHca = row_of 0x105 0 16 12 false false
command_row InitHca = row_of 0x102 0 16 16 false false
command_row TeardownHca = row_of 0x103 0 16 16 false false
command_row QueryBootPages = row_of 0x107 1 16 16 false false
command_row QueryInitPages = row_of 0x107 2 16 16 false false
command_row GivePages = row_of 0x108 1 16 16 false true
command_row ReturnPages = row_of 0x108 2 16 16 false true
command_row AllocPd = row_of 0x800 0 16 16 false false
command_row DeallocPd = row_of 0x801 0 16 16 true false
command_row AllocUar = row_of 0x802 0 16 16 false false
command_row DeallocUar = row_of 0x803 0 16 16 true false
command_row CreateMkey = row_of 0x200 0 80 16 false false
command_row DestroyMkey = row_of 0x202 0 16 16 true false
command_row CreateEq = row_of 0x301 0 48 16 false false
command_row DestroyEq = row_of 0x302 0 16 16 true false
command_row CreateCq = row_of 0x400 0 80 16 false false
command_row DestroyCq = row_of 0x401 0 16 16 true false
command_row ModifyCq = row_of 0x403 1 80 16 true true
command_row CreateSrq = row_of 0x700 0 48 16 false false
command_row DestroySrq = row_of 0x701 0 16 16 true false
command_row CreateQp = row_of 0x500 0 80 16 false false
command_row DestroyQp = row_of 0x501 0 16 16 true false
command_row RstToInit = row_of 0x502 0 16 16 true false
command_row InitToRtr = row_of 0x503 0 16 16 true true
command_row RtrToRts = row_of 0x504 0 16 16 true false
command_row ToErr = row_of 0x507 0 16 16 true false

abbrev pub kinds : List Kind
kinds = EnableHca ∷ DisableHca ∷ InitHca ∷ TeardownHca ∷ QueryBootPages ∷ QueryInitPages ∷ GivePages ∷ ReturnPages ∷ AllocPd ∷ DeallocPd ∷ AllocUar ∷ DeallocUar ∷ CreateMkey ∷ DestroyMkey ∷ CreateEq ∷ DestroyEq ∷ CreateCq ∷ DestroyCq ∷ ModifyCq ∷ CreateSrq ∷ DestroySrq ∷ CreateQp ∷ DestroyQp ∷ RstToInit ∷ InitToRtr ∷ RtrToRts ∷ ToErr ∷ []

-- the kind with this opcode and modifier, if any has it
unfoldable pub kind_of_code : ℕ → Option Kind
kind_of_code code = find (λ kind. (command_row kind).code == code) kinds
